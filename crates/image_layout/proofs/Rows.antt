-- Worked rows of the definitions: a boot loader round a table, and one partition in the hole of another.
use Rattle.std.specs.Prelude.{◌≡◌, ℕ, List, [], ◌∷◌, None, Some, true, false}
use Rattle.std.proofs.Common.{refl}
use Rattle.base_fields.specs.declared.spans.TableKind.TheVariants as table
use Rattle.image_layout.specs.Covering.{is_shown}
use Rattle.image_layout.specs.Layout.{byte_at, has_file_byte, is_claimed, is_covered}
use Rattle.image_layout.specs.declared.layout.Layout.{Layout}
use Rattle.image_layout.specs.declared.layout.Placed.{Placed}

-- a boot loader of 20,000 bytes that leaves the offsets 440 to 17,407 to the table, in a partition of 32,768
abbrev boot : Placed
boot = record { name = []; source = Some (98 ∷ []); at = 0; size = 32768; len = 20000; whole = false; holes = record { at = 440; len = 16968 } ∷ [] }

row-439 : is_claimed boot 439 ≡ true
row-439 = refl

row-440 : is_claimed boot 440 ≡ false
row-440 = refl

row-17407 : is_claimed boot 17407 ≡ false
row-17407 = refl

row-17408 : is_claimed boot 17408 ≡ true
row-17408 = refl

-- claimed to its end, with a byte of its file below 20,000
row-19999 : has_file_byte boot 19999 ≡ true
row-19999 = refl

row-20000 : has_file_byte boot 20000 ≡ false
row-20000 = refl

row-claimed-20000 : is_claimed boot 20000 ≡ true
row-claimed-20000 = refl

row-32768 : is_claimed boot 32768 ≡ false
row-32768 = refl

-- covered to its file's end, and to its own end where it is whole
row-shown : is_shown boot 20000 ≡ false
row-shown = refl

row-whole : is_shown (record { name = []; source = Some (98 ∷ []); at = 0; size = 32768; len = 20000; whole = true; holes = record { at = 440; len = 16968 } ∷ [] }) 20000 ≡ true
row-whole = refl

-- ---- an image of 12 bytes: a file of 10 bytes with a hole of 4, and one of 2 bytes in that hole

abbrev pub outer : Placed
outer = record { name = []; source = Some (97 ∷ []); at = 0; size = 10; len = 10; whole = false; holes = record { at = 3; len = 4 } ∷ [] }

abbrev pub inner : Placed
inner = record { name = []; source = Some (98 ∷ []); at = 4; size = 2; len = 2; whole = false; holes = [] }

abbrev pub nested : Layout
nested = record {
  file = 99 ∷ [];
  size = 12;
  fill = 255;
  whole = false;
  table = table.Bare;
  sector = 512;
  mbr = None;
  hybrid = [];
  logical = [];
  gpt = None;
  parts = outer ∷ inner ∷ [];
}

-- the bytes of both files: each as its name, ten times
abbrev texts : List ℕ → List ℕ
texts (c ∷ cs) = c ∷ c ∷ c ∷ c ∷ c ∷ c ∷ c ∷ c ∷ c ∷ c ∷ []
texts [] = []

row-outer : byte_at nested texts 2 ≡ 97
row-outer = refl

row-hole : byte_at nested texts 3 ≡ 255
row-hole = refl

row-inner : byte_at nested texts 4 ≡ 98
row-inner = refl

row-behind : byte_at nested texts 7 ≡ 97
row-behind = refl

row-fill : byte_at nested texts 10 ≡ 255
row-fill = refl

row-covered : is_covered nested 5 ≡ true
row-covered = refl

row-uncovered : is_covered nested 6 ≡ false
row-uncovered = refl
