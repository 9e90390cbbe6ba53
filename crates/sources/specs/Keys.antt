-- The two kinds of key in a log. What may be missing has a presence before it: 1, or 0 with all its bytes zero.
use Rattle.std.specs.Prelude.{ℕ, ◌^◌, Bool, true, false, cond, ◌&&◌, ◌||◌, List, [], ◌∷◌, ◌++◌, length, drop, replicate, Some, None, Option, ◌==◌, nat_lt, slice_index}
use Rattle.rows.specs.declared.key.FrameKey.{FrameKey}
use Rattle.rows.specs.declared.key.LabelKey.{LabelKey}
use Rattle.sources.specs.Layout.{in_bytes, field, Layout}

abbrev pub all_zero : List ℕ → Bool
all_zero [] = true
all_zero (byte ∷ bytes) = byte == 0 && all_zero bytes

-- a presence, with the bytes after it
abbrev pub good_presence : List ℕ → Bool
good_presence [] = false
good_presence (presence ∷ bytes) = presence == 1 || (presence == 0 && all_zero bytes)

abbrev pub present : {X : Type 0} → ℕ → X → Option X
present presence value = cond (presence == 1) (Some value) None

-- a presence and so many bytes, of which a value gives its own
abbrev pub optional : {X : Type 0} → ℕ → (X → List ℕ) → Option X → List ℕ
optional width bytes (Some value) = 1 ∷ bytes value
optional width bytes None = 0 ∷ replicate width 0

abbrev pub fitting : {X : Type 0} → (X → Bool) → Option X → Bool
fitting fits (Some value) = fits value
fitting fits None = true

-- a frame key: node 2, presence 1, number 4; bytes that are no key's count as one of node 0 whose number is missing
abbrev pub frames : Layout FrameKey
frames = record {
  code = 1;
  width = 7;
  valid = λ bytes. (length bytes == 7) && good_presence (drop 2 bytes);
  decoded = λ bytes. cond (length bytes == 7) (record { node = field 0 2 bytes; number = present (slice_index bytes 2) (field 3 4 bytes) }) (record { node = 0; number = None });
  encoded = λ key. in_bytes 2 key.node ++ optional 4 (in_bytes 4) key.number;
  fits = λ key. nat_lt key.node (2 ^ 16) && fitting (λ n. nat_lt n (2 ^ 32)) key.number;
}

-- a label key: presence 1, label 12; bytes that are no key's count as one that is missing
abbrev pub labels : Layout LabelKey
labels = record {
  code = 2;
  width = 13;
  valid = λ bytes. (length bytes == 13) && good_presence bytes;
  decoded = λ bytes. cond (length bytes == 13) (record { label = present (slice_index bytes 0) (drop 1 bytes) }) (record { label = None });
  encoded = λ key. optional 12 (λ bytes. bytes) key.label;
  fits = λ key. fitting (λ bytes. length bytes == 12) key.label;
}
