-- Lines that are printed in turns.
use Rattle.std.specs.Prelude.{◌≡◌, ℕ, ◌+◌, ◌<◌, ◌≤◌, List, [], ◌∷◌, ◌++◌, Option, Result, Ok, Err, drop, get_or, length, min, take}
use Rattle.std.proofs.Common.{ap, sym, subst, ◌∙◌, arith}
use Rattle.std.proofs.lemmas.List.{take_all, take_min, take-append-le}
use Rattle.job_stages.proofs.PrintingLemmas.{fronts_join, lines_join}
use Rattle.job_stages.specs.Printing.{Prints, PrintsFront, all_added}
use Rattle.outside.specs.Counts.{Rose}
use Rattle.outside.specs.declared.printer.PrintErr.{PrintErr}
use Rattle.gpt_table.specs.declared.entry.GptEntry.{GptEntry}
use Rattle.mbr_table.specs.declared.mbr.MbrEntry.{MbrEntry}
use Rattle.table_lines.specs.Lines.{entry_text}
use Rattle.list_job.proofs.LineLemmas.{entries_more, entries_split, from_more, from_split}
use Rattle.list_job.specs.Printed.{PrintsTurn, entry_lines, lines_from}

-- a front is one of more lines, too
front_more : (a b : List (List ℕ)) (before now : Option (List (List ℕ))) → PrintsFront a before now → PrintsFront (a ++ b) before now
front_more a b before now front =
    let n : ℕ = min front.printed (length a) in
    let below : n ≤ length a = omega arith in
    record {
      printed = n;
      same = front.same ∙ ap (all_added before) (sym (take-append-le n a b below ∙ take_min front.printed a));
    }

-- the same lines, spelled otherwise
pub turn_same : (a b : List (List ℕ)) (before now : Option (List (List ℕ))) (faults_before faults_now : ℕ) (r : Result Unit PrintErr)
    → a ≡ b → PrintsTurn a before now faults_before faults_now r → PrintsTurn b before now faults_before faults_now r
turn_same a b before now faults_before faults_now r same turn =
    subst (λ (lines : List (List ℕ)). PrintsTurn lines before now faults_before faults_now r) same turn

-- a turn behind lines that are all printed
pub turn_then : (a b : List (List ℕ)) (before between now : Option (List (List ℕ))) (faults_before faults_between faults_now : ℕ)
    (u : Unit {0}) (r : Result Unit PrintErr) → PrintsTurn a before between faults_before faults_between (Ok u)
    → PrintsTurn b between now faults_between faults_now r → PrintsTurn (a ++ b) before now faults_before faults_now r
turn_then a b before between now faults_before faults_between faults_now u (Ok done) first next = record {
  steady = next.steady ∙ first.steady;
  printed =
      next.printed ∙ ap (λ (lines : Option (List (List ℕ))). all_added lines b) first.printed ∙ sym (lines_join before a b);
  failed = tt;
  front = tt;
}
turn_then a b before between now faults_before faults_between faults_now u (Err failure) first next = record {
  steady = tt;
  printed = tt;
  failed = subst (λ (n : ℕ). Rose n faults_now) first.steady next.failed;
  front = fronts_join a b before between now first.printed next.front;
}

-- a turn in which a line failed is the last
pub turn_stop : (a b : List (List ℕ)) (before now : Option (List (List ℕ))) (faults_before faults_now : ℕ) (failure : PrintErr)
    → PrintsTurn a before now faults_before faults_now (Err failure)
    → PrintsTurn (a ++ b) before now faults_before faults_now (Err failure)
turn_stop a b before now faults_before faults_now failure turn = record {
  steady = tt;
  printed = tt;
  failed = turn.failed;
  front = front_more a b before now turn.front;
}

-- a turn as a whole
pub turn_prints : (wanted : List (List ℕ)) (before now : Option (List (List ℕ))) (faults_before faults_now : ℕ) (r : Result Unit PrintErr)
    → PrintsTurn wanted before now faults_before faults_now r → Prints wanted before now faults_before faults_now
turn_prints wanted before now faults_before faults_now (Ok done) turn = record {
  front = record {
    printed = length wanted;
    same = turn.printed ∙ ap (all_added before) (sym (take_all (length wanted) wanted (omega arith)));
  };
  whole = λ steady. turn.printed;
}
turn_prints wanted before now faults_before faults_now (Err failure) turn = record {
  front = turn.front;
  whole = λ steady. absurd (steady turn.failed);
}

-- ---- entries

-- one entry of a record more
pub turn_more : (lines : ℕ → MbrEntry → List (List ℕ)) (n k m : ℕ) (xs : List MbrEntry) (d : MbrEntry)
    (before between now : Option (List (List ℕ))) (faults_before faults_between faults_now : ℕ) (u v : Unit {0})
    → k < length xs → m ≡ n + k → PrintsTurn (lines_from lines n (take k xs)) before between faults_before faults_between (Ok u)
    → PrintsTurn (lines m (get_or xs k d)) between now faults_between faults_now (Ok v)
    → PrintsTurn (lines_from lines n (take (k + 1) xs)) before now faults_before faults_now (Ok v)
turn_more lines n k m xs d before between now faults_before faults_between faults_now u v below place front own =
    turn_same _ _ before now faults_before faults_now (Ok v) (from_more lines n k m xs d below place)
    (turn_then (lines_from lines n (take k xs)) (lines m (get_or xs k d)) before between now faults_before faults_between faults_now u (Ok v) front own)

-- one in which a line failed
pub turn_ends : (lines : ℕ → MbrEntry → List (List ℕ)) (n k m : ℕ) (xs : List MbrEntry) (d : MbrEntry)
    (before between now : Option (List (List ℕ))) (faults_before faults_between faults_now : ℕ) (u : Unit {0}) (failure : PrintErr)
    → k < length xs → m ≡ n + k → PrintsTurn (lines_from lines n (take k xs)) before between faults_before faults_between (Ok u)
    → PrintsTurn (lines m (get_or xs k d)) between now faults_between faults_now (Err failure)
    → PrintsTurn (lines_from lines n xs) before now faults_before faults_now (Err failure)
turn_ends lines n k m xs d before between now faults_before faults_between faults_now u failure below place front own =
    turn_same _ _ before now faults_before faults_now (Err failure) (from_split lines n k m xs d below place)
    (turn_stop _ (lines_from lines (n + (k + 1)) (drop (k + 1) xs)) before now faults_before faults_now failure
    (turn_then (lines_from lines n (take k xs)) (lines m (get_or xs k d)) before between now faults_before faults_between faults_now u (Err failure) front own))

-- the same of the entries of a GUID partition table
pub entry_turn_more : (slots : List ℕ) (entries : List GptEntry) (k : ℕ) (d : GptEntry)
    (before between now : Option (List (List ℕ))) (faults_before faults_between faults_now : ℕ) (u v : Unit {0})
    → k < length entries → length slots ≡ length entries
    → PrintsTurn (take k (entry_lines slots entries)) before between faults_before faults_between (Ok u)
    → PrintsTurn (entry_text (get_or slots k 0) (get_or entries k d) ∷ []) between now faults_between faults_now (Ok v)
    → PrintsTurn (take (k + 1) (entry_lines slots entries)) before now faults_before faults_now (Ok v)
entry_turn_more slots entries k d before between now faults_before faults_between faults_now u v below same front own =
    turn_same _ _ before now faults_before faults_now (Ok v) (entries_more slots entries k d below same)
    (turn_then (take k (entry_lines slots entries)) (entry_text (get_or slots k 0) (get_or entries k d) ∷ []) before between now
    faults_before faults_between faults_now u (Ok v) front own)

pub entry_turn_ends : (slots : List ℕ) (entries : List GptEntry) (k : ℕ) (d : GptEntry)
    (before between now : Option (List (List ℕ))) (faults_before faults_between faults_now : ℕ) (u : Unit {0}) (failure : PrintErr)
    → k < length entries → length slots ≡ length entries
    → PrintsTurn (take k (entry_lines slots entries)) before between faults_before faults_between (Ok u)
    → PrintsTurn (entry_text (get_or slots k 0) (get_or entries k d) ∷ []) between now faults_between faults_now (Err failure)
    → PrintsTurn (entry_lines slots entries) before now faults_before faults_now (Err failure)
entry_turn_ends slots entries k d before between now faults_before faults_between faults_now u failure below same front own =
    turn_same _ _ before now faults_before faults_now (Err failure) (entries_split slots entries k d below same)
    (turn_stop _ (drop (k + 1) (entry_lines slots entries)) before now faults_before faults_now failure
    (turn_then (take k (entry_lines slots entries)) (entry_text (get_or slots k 0) (get_or entries k d) ∷ []) before between now
    faults_before faults_between faults_now u (Err failure) front own))
