-- What a stop finds of a write is no matter to what is read and what may be left.
use Rattle.std.proofs.Common.{◌≡◌, ℕ, List, [], ◌∷◌, ◌++◌, map, reverse, refl, ap, sym, subst, ◌∙◌}
use Rattle.std.proofs.lemmas.List.{map-append, reverse-append}
use Rattle.bench.specs.declared.Dev.{Dev}
use Rattle.bench.specs.declared.Dev.TheVariants.{Target, Journal}
use Rattle.bench_devices.specs.declared.record.Entry.{Entry}
use Rattle.bench_devices.specs.declared.record.Kind.{Kind}
use Rattle.bench_devices.specs.declared.record.Kind.TheVariants.{Wrote, Grew, Synced, Attached, Rested}
use Rattle.bench.specs.Disk.{StillLeaves}
use Rattle.bench_devices.specs.History.{Effect, Writes, Grows, Settles, Names, Rests, Call, Log, ReadsAlike, as_read, disk_of, effect_as_read, effect_on, images_after, images_of, name_after, named, read_after, reads_of}
use Rattle.bench.specs.Meter.{Both}
use Rattle.bench_devices.specs.Record.{call_of, calls_of, effect_of}

read_same : (on dev : Dev) (effect : Effect) (old : List ℕ) → read_after (effect_on on dev (effect_as_read effect)) old ≡ read_after (effect_on on dev effect) old
read_same Target Journal effect old = refl
read_same Journal Target effect old = refl
read_same Target Target (Writes at bytes found) old = refl
read_same Target Target (Grows len) old = refl
read_same Target Target Settles old = refl
read_same Target Target (Names name) old = refl
read_same Target Target Rests old = refl
read_same Journal Journal (Writes at bytes found) old = refl
read_same Journal Journal (Grows len) old = refl
read_same Journal Journal Settles old = refl
read_same Journal Journal (Names name) old = refl
read_same Journal Journal Rests old = refl

images_same : (on dev : Dev) (effect : Effect) (old : List ℕ) (images : List ℕ → Type 0) → images_after (effect_on on dev (effect_as_read effect)) old images ≡ images_after (effect_on on dev effect) old images
images_same Target Journal effect old images = refl
images_same Journal Target effect old images = refl
images_same Target Target (Writes at bytes found) old images = refl
images_same Target Target (Grows len) old images = refl
images_same Target Target Settles old images = refl
images_same Target Target (Names name) old images = refl
images_same Target Target Rests old images = refl
images_same Journal Journal (Writes at bytes found) old images = refl
images_same Journal Journal (Grows len) old images = refl
images_same Journal Journal Settles old images = refl
images_same Journal Journal (Names name) old images = refl
images_same Journal Journal Rests old images = refl

name_same : (on dev : Dev) (effect : Effect) (old : _) → named (effect_on on dev (effect_as_read effect)) old ≡ named (effect_on on dev effect) old
name_same Target Journal effect old = refl
name_same Journal Target effect old = refl
name_same Target Target (Writes at bytes found) old = refl
name_same Target Target (Grows len) old = refl
name_same Target Target Settles old = refl
name_same Target Target (Names name) old = refl
name_same Target Target Rests old = refl
name_same Journal Journal (Writes at bytes found) old = refl
name_same Journal Journal (Grows len) old = refl
name_same Journal Journal Settles old = refl
name_same Journal Journal (Names name) old = refl
name_same Journal Journal Rests old = refl

reads_as : (first : Both (List ℕ)) (calls : List Call) (dev : Dev) → reads_of first (map as_read calls) dev ≡ reads_of first calls dev
reads_as first [] dev = refl
reads_as first (call ∷ calls) dev = ap (λ (l : List ℕ). read_after (effect_on call.dev dev (effect_as_read call.effect)) l) (reads_as first calls dev) ∙ read_same call.dev dev call.effect (reads_of first calls dev)

images_as : (first : Both (List ℕ)) (calls : List Call) (dev : Dev) → images_of first (map as_read calls) dev ≡ images_of first calls dev
images_as first [] dev = refl
images_as first (call ∷ calls) dev =
    let effect = effect_on call.dev dev (effect_as_read call.effect) in
    ap (λ (l : List ℕ). images_after effect l (images_of first (map as_read calls) dev)) (reads_as first calls dev) ∙ ap (λ (images : List ℕ → Type 0). images_after effect (reads_of first calls dev) images) (images_as first calls dev) ∙ images_same call.dev dev call.effect (reads_of first calls dev) (images_of first calls dev)

names_as : (calls : List Call) (dev : Dev) → name_after (map as_read calls) dev ≡ name_after calls dev
names_as [] dev = refl
names_as (call ∷ calls) dev = ap (λ (n : _). named (effect_on call.dev dev (effect_as_read call.effect)) n) (names_as calls dev) ∙ name_same call.dev dev call.effect (name_after calls dev)

-- so the devices read as before
pub alike_reads : (first : Both (List ℕ)) (old new : Log) (dev : Dev) → ReadsAlike old new → reads_of first new.calls dev ≡ reads_of first old.calls dev
alike_reads first old new dev alike = sym (reads_as first new.calls dev) ∙ ap (λ (calls : List Call). reads_of first calls dev) alike.calls ∙ reads_as first old.calls dev

-- and have the images that they had
pub alike_images : (first : Both (List ℕ)) (old new : Log) (dev : Dev) → ReadsAlike old new → (image : List ℕ) → images_of first new.calls dev image → images_of first old.calls dev image
alike_images first old new dev alike image is =
    let one = subst (λ (images : List ℕ → Type 0). images image) (sym (images_as first new.calls dev)) is in
    let two = subst (λ (calls : List Call). images_of first calls dev image) alike.calls one in
    subst (λ (images : List ℕ → Type 0). images image) (images_as first old.calls dev) two

pub alike_stays : (first : Both (List ℕ)) (old new : Log) (dev : Dev) → ReadsAlike old new → StillLeaves dev (disk_of first old.calls) (disk_of first new.calls)
alike_stays first old new dev alike image is =
    let one = subst (λ (images : List ℕ → Type 0). images image) (sym (images_as first old.calls dev)) is in
    let two = subst (λ (calls : List Call). images_of first calls dev image) (sym alike.calls) one in
    subst (λ (images : List ℕ → Type 0). images image) (images_as first new.calls dev) two

-- and their names
pub alike_names : (old new : Log) (dev : Dev) → ReadsAlike old new → name_after new.calls dev ≡ name_after old.calls dev
alike_names old new dev alike = sym (names_as new.calls dev) ∙ ap (λ (calls : List Call). name_after calls dev) alike.calls ∙ names_as old.calls dev

entry_same : (kind : Kind) (at : ℕ) (bytes found other : List ℕ) → effect_as_read (effect_of kind at bytes found) ≡ effect_as_read (effect_of kind at bytes other)
entry_same Wrote at bytes found other = refl
entry_same Grew at bytes found other = refl
entry_same Synced at bytes found other = refl
entry_same Attached at bytes found other = refl
entry_same Rested at bytes found other = refl

call_same : (bytes found other : List ℕ) (entry : Entry) → as_read (call_of bytes found entry) ≡ as_read (call_of bytes other entry)
call_same bytes found other entry = let e = entry_same entry.kind entry.at _ _ _ in ap (λ (effect : Effect). let call : Call = record { dev = entry.dev; effect = effect } in call) e

calls_same : (bytes found other : List ℕ) (entries : List Entry) → map as_read (map (call_of bytes found) entries) ≡ map as_read (map (call_of bytes other) entries)
calls_same bytes found other [] = refl
calls_same bytes found other (entry ∷ entries) =
    let one = call_same bytes found other entry in
    let rest = calls_same bytes found other entries in
    cc

map_reverse : (g : Call → Call) (xs : List Call) → map g (reverse xs) ≡ reverse (map g xs)
map_reverse g [] = refl
map_reverse g (x ∷ xs) =
    let turned : reverse (x ∷ xs) ≡ reverse xs ++ x ∷ [] = reverse-append (x ∷ []) xs in
    let mapped : map g (reverse xs ++ x ∷ []) ≡ map g (reverse xs) ++ g x ∷ [] = map-append g (reverse xs) (x ∷ []) in
    let back : reverse (g x ∷ map g xs) ≡ reverse (map g xs) ++ g x ∷ [] = reverse-append (g x ∷ []) (map g xs) in
    let rest = map_reverse g xs in
    ap (λ (l : List Call). map g l) turned ∙ mapped ∙ ap (λ (l : List Call). l ++ g x ∷ []) rest ∙ sym back

-- other bytes that a stop finds
pub found_alike : (bytes found other : List ℕ) (entries : List Entry) → map as_read (calls_of bytes other entries) ≡ map as_read (calls_of bytes found entries)
found_alike bytes found other entries = map_reverse as_read (map (call_of bytes other) entries) ∙ ap (λ (l : List Call). reverse l) (calls_same bytes other found entries) ∙ sym (map_reverse as_read (map (call_of bytes found) entries))
