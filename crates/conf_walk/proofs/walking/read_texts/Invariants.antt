use Rattle.std.proofs.Common.{◌≡◌}
use Rattle.outside.specs.Counts.{NoneFell}
use Rattle.conf_walk.specs.Stack.{IsStack, stack_walked, work_left}
use Rattle.conf_texts.specs.Texts.{nothing_read}
use Rattle.conf_walk.specs.Walk.{nestings, text_walked}
use Rattle.conf_walk.proofs.walking.read_texts.Given as goal

-- what is left on the stack says what the whole walk does
abbrev pub invariant-loop-text : goal.invariant-loop-text
invariant-loop-text g l =
    let files = g.F.Files in
    record {
      none_fell : NoneFell (files.counts l.fn.files) (files.counts l.files);
      same_files : files.file l.files ≡ files.file l.fn.files;
      stack : IsStack l.stack.items l.reading;
      same : files.told → text_walked l.vars (files.file l.fn.files) nestings l.name nothing_read ≡ stack_walked l.vars (files.file l.fn.files) l.stack.items l.reading;
    }

abbrev pub decreases-loop-text : goal.decreases-loop-text
decreases-loop-text g l = work_left l.stack.items l.reading
