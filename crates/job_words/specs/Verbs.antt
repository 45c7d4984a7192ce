-- The commands by their names.
use Rattle.std.specs.Prelude.{List, [], ◌∷◌, Option, codes, find}
use Rattle.std.specs.Str.{bytes_eq}
use Rattle.clap.specs.Walk.{Text}
use Rattle.job_words.specs.declared.verbs.Verb.{Verb}
use Rattle.job_words.specs.declared.verbs.Verb.TheVariants as verb

abbrev pub name_of : Verb → Text
name_of verb.Build = codes "build"
name_of verb.Map = codes "map"
name_of verb.Copy = codes "copy"
name_of verb.Resume = codes "resume"
name_of verb.Forget = codes "forget"
name_of verb.Verify = codes "verify"
name_of verb.List = codes "list"
name_of verb.Demo = codes "demo"
name_of verb.Gang = codes "gang"
name_of verb.GangResume = codes "gang-resume"
name_of verb.Cut = codes "cut"
name_of verb.Expand = codes "expand"
name_of verb.Nand = codes "nand"

abbrev pub verbs : List Verb
verbs = verb.Build ∷ verb.Map ∷ verb.Copy ∷ verb.Resume ∷ verb.Forget ∷ verb.Verify ∷ verb.List
    ∷ verb.Demo ∷ verb.Gang ∷ verb.GangResume ∷ verb.Cut ∷ verb.Expand ∷ verb.Nand ∷ []

-- the command that a word names
abbrev pub verb_named : Text → Option Verb
verb_named word = find (λ v. bytes_eq (name_of v) word) verbs
