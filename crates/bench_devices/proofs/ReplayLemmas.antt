-- One recorded call more that is replayed.
use Rattle.std.proofs.Common.{◌≡◌, ℕ, ◌+◌, ◌<◌, List, [], ◌∷◌, Bool, length, take, get_or, ap, ◌∙◌}
use Rattle.bench.specs.declared.Dev.{Dev}
use Rattle.bench_devices.specs.declared.record.Entry.{Entry}
use Rattle.bench_devices.specs.History.{Call, effect_on, read_after, reads_of}
use Rattle.bench_devices.specs.Leaving.{image_after, image_of, is_kept}
use Rattle.bench.specs.Meter.{Both, of_device}
use Rattle.bench_devices.specs.Record.{call_of, calls_of}
use Rattle.bench_devices.proofs.RecordLemmas.{calls_next}

pub reads_next : (first : Both (List ℕ)) (dev : Dev) (bytes found : List ℕ) (entries : List Entry) (k : ℕ) (entry : Entry) → k < length entries → get_or entries k entry ≡ entry → reads_of first (calls_of bytes found (take (k + 1) entries)) dev ≡ read_after (effect_on entry.dev dev (call_of bytes found entry).effect) (reads_of first (calls_of bytes found (take k entries)) dev)
reads_next first dev bytes found entries k entry inside is =
    let next = calls_next bytes found entries k entry inside in
    ap (λ (calls : List Call). reads_of first calls dev) next ∙ ap (λ (e : Entry). read_after (effect_on e.dev dev (call_of bytes found e).effect) (reads_of first (calls_of bytes found (take k entries)) dev)) is

pub image_next : (first : Both (List ℕ)) (settled : Both ℕ) (keep : List Bool) (most : ℕ) (dev : Dev) (bytes found : List ℕ) (entries : List Entry) (k : ℕ) (entry : Entry) → k < length entries → get_or entries k entry ≡ entry → image_of first settled keep most dev (calls_of bytes found (take (k + 1) entries)) ≡ image_after (is_kept settled keep (calls_of bytes found (take k entries))) most (effect_on entry.dev dev (call_of bytes found entry).effect) (reads_of first (calls_of bytes found (take k entries)) dev) (image_of first settled keep most dev (calls_of bytes found (take k entries)))
image_next first settled keep most dev bytes found entries k entry inside is =
    let next = calls_next bytes found entries k entry inside in
    ap (λ (calls : List Call). image_of first settled keep most dev calls) next ∙ ap (λ (e : Entry). image_after (is_kept settled keep (calls_of bytes found (take k entries))) most (effect_on e.dev dev (call_of bytes found e).effect) (reads_of first (calls_of bytes found (take k entries)) dev) (image_of first settled keep most dev (calls_of bytes found (take k entries)))) is

-- what a device reads depends on what it had itself at first
reads_first : (f g : Both (List ℕ)) (dev : Dev) (calls : List Call) → of_device dev f ≡ of_device dev g → reads_of f calls dev ≡ reads_of g calls dev
reads_first f g dev [] same = same
reads_first f g dev (call ∷ calls) same = ap (λ (l : List ℕ). read_after (effect_on call.dev dev call.effect) l) (reads_first f g dev calls same)

-- and so does its image
pub image_first : (f g : Both (List ℕ)) (settled : Both ℕ) (keep : List Bool) (most : ℕ) (dev : Dev) (calls : List Call) → of_device dev f ≡ of_device dev g → image_of f settled keep most dev calls ≡ image_of g settled keep most dev calls
image_first f g settled keep most dev [] same = same
image_first f g settled keep most dev (call ∷ calls) same =
    let kept = is_kept settled keep calls in
    let effect = effect_on call.dev dev call.effect in
    ap (λ (l : List ℕ). image_after kept most effect l (image_of f settled keep most dev calls)) (reads_first f g dev calls same) ∙ ap (λ (l : List ℕ). image_after kept most effect (reads_of g calls dev) l) (image_first f g settled keep most dev calls same)
