-- What a length says of the file of a sparse image's one source.
use Rattle.std.specs.Prelude.{◌≡◌, ℕ, ◌≤◌, Bool, true, false, not, List, [], Option, Some, None, Result, Ok, Err}
use Rattle.std.specs.Prelude.{is_none, length, nat_le, unwrap_or}
use Rattle.std.proofs.Common.{refl, sym, subst}
use Rattle.std.proofs.lemmas.Bool.{leb-true}
use Rattle.base_fields.specs.Results.{◌>>=◌, when}
use Rattle.image_plan.specs.Lengths.{is_lacking, length_under}
use Rattle.image_plan.specs.declared.faults.PlanFault.{PlanFault}
use Rattle.image_plan.specs.declared.faults.PlanFault.TheVariants.{Missing}
use Rattle.outside.specs.Files.{Tree}

-- a file that is there and has that many bytes, at most so many
pub record IsRead (file : Option (List ℕ)) (most len : ℕ) : Type 0 where
  pub found : file ≡ Some (unwrap_or file [])
  pub long : len ≡ length (unwrap_or file [])
  pub small : len ≤ most

-- what is said of the length of a file
abbrev pub said_by : Tree → ℕ → (ℕ → PlanFault) → Option (List ℕ) → Result ℕ PlanFault
said_by before most far name =
    when (not (is_lacking before name)) (length_under before name) (Missing 0)
    >>= (λ len. when (nat_le len most) len (far len))

within : (b : Bool) (n len : ℕ) (far : PlanFault) → when b n far ≡ Ok len → (b ≡ true) × (n ≡ len)
within true n len far h = (refl, let same : Ok n ≡ Ok len = h in cc)
within false n len far h = absurd (let no : Err far ≡ Ok len = h in cc)

by_file : (file : Option (List ℕ)) (most len : ℕ) (far : ℕ → PlanFault)
    → (when (not (is_none file)) (length (unwrap_or file [])) (Missing 0) >>= (λ n. when (nat_le n most) n (far n)))
    ≡ Ok len → IsRead file most len
by_file None most len far said = absurd (let no : Err (Missing 0) ≡ Ok len = said in cc)
by_file (Some bytes) most len far said =
    let passed : (nat_le (length bytes) most ≡ true) × (length bytes ≡ len) =
    within (nat_le (length bytes) most) (length bytes) len (far (length bytes)) said in
    record {
      found = refl;
      long = sym passed.1;
      small = subst (λ (n : ℕ). n ≤ most) passed.1 (leb-true (length bytes) most passed.0);
    }

pub read_by : (before : Tree) (most len : ℕ) (far : ℕ → PlanFault) (name : Option (List ℕ)) (text : List ℕ)
    → name ≡ Some text → said_by before most far name ≡ Ok len → IsRead (before text) most len
read_by before most len far name text named said =
    by_file (before text) most len far
    (subst (λ (o : Option (List ℕ)). said_by before most far o ≡ Ok len) named said)
