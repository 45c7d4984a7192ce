-- What the write of a unit gives a copier on its way.
use Rattle.std.proofs.Common.{◌≡◌, ℕ, ◌+◌, ◌≤◌, List, [], ◌∷◌, ◌++◌, length, take, drop, refl, sym, subst, ap, ◌∙◌, arith, length-append, length-take}
use Rattle.std.proofs.lemmas.List.{drop-append-le}
use Rattle.std.proofs.lemmas.Option.{get_or_from_slice_get}
use Rattle.std.proofs.Math.Seq.{drop-append_seam, take-append_seam}
use Rattle.base_fields.specs.Fields.{written}
use Rattle.base_fields.specs.declared.spans.Span.{Span}
use Rattle.bench.specs.declared.Dev.TheVariants.{Target}
use Rattle.bench.specs.Disk.{Disk}
use Rattle.bench.proofs.DiskLemmas.{torn_within}
use Rattle.block_map.specs.Maps.{part_of}
use Rattle.block_map.specs.Units.{units_of}
use Rattle.block_map.specs.declared.maps.BlockMap.{BlockMap}
use Rattle.journal_format.specs.declared.jobs.JobId.{JobId}
use Rattle.copy_states.specs.Jobs.{HasFrom, IsUnitAt, SameIn}
use Rattle.copy_laws.proofs.Writes.{one_unit_torn, source_kept}
use Rattle.copy_narrow.specs.Written.{AreFrom, WritesAreWritten}

-- a span that was written reads so
written_reads : (u : Span) (old bytes : List ℕ) → length bytes ≡ u.len → u.at + u.len ≤ length old → part_of u (written old u.at bytes) ≡ bytes
written_reads u old bytes whole inside =
    let rest : List ℕ = drop (u.at + length bytes) old in
    let front : length (take u.at old) ≡ u.at = omega (arith, length-take u.at old, inside) in
    let seam : drop u.at (take u.at old ++ bytes) ≡ bytes = subst (λ (n : ℕ). drop n (take u.at old ++ bytes) ≡ bytes) front (drop-append_seam (take u.at old) bytes) in
    let low : u.at ≤ length (take u.at old ++ bytes) = omega (arith, front, length-append (take u.at old) bytes) in
    let behind : drop u.at (take u.at old ++ bytes ++ rest) ≡ bytes ++ rest = drop-append-le u.at (take u.at old ++ bytes) rest low ∙ ap (λ (l : List ℕ). l ++ rest) seam in
    ap (λ (l : List ℕ). take u.len l) behind ∙ subst (λ (n : ℕ). take n (bytes ++ rest) ≡ bytes) whole (take-append_seam bytes rest)

-- a number has one unit
one_span : (id : JobId) (m : BlockMap) (k : ℕ) (u v : Span) → IsUnitAt id m k u → IsUnitAt id m k v → u ≡ v
one_span id m k u v is is' = sym (get_or_from_slice_get (units_of m id.unit) k u u is) ∙ get_or_from_slice_get (units_of m id.unit) k v u is'

pub writes_are_written : (a b : Disk) → WritesAreWritten a b
writes_are_written a b id m source start p u bytes it touches wrote = record {
  idle = it.idle;
  mine = it.mine;
  torn = one_unit_torn id m (p.unit ∷ []) p.unit _ _ (0, omega arith, refl) (record {
    span = u;
    is = it.is;
    torn = torn_within u.at u.len touches.reads (omega arith) (omega (arith, it.whole));
  });
  copied = source_kept source (λ s. AreFrom u s bytes) (λ s. (v : Span) → IsUnitAt id m p.unit v → HasFrom v s _) (λ s from v is'.
      let reads : SameIn u s (b.reads Target) = ap (λ (l : List ℕ). part_of u l) wrote ∙ written_reads u (a.reads Target) bytes it.whole it.inside ∙ from.same in
      subst (λ (x : Span). HasFrom x s (b.reads Target)) (one_span id m p.unit u v it.is is') (record { there = from.there; same = reads })) it.copied;
}
