-- What a person reads of keys, readings, rows and records: the bytes of its text, which `None` leaves open.
use Rattle.std.specs.Prelude.{ℕ, ◌/◌, ◌%◌, false, List, [], ◌∷◌, ℤ, Some, None, codes, decimal, Option}
use Prim.Native.String.{String}
use Rattle.std.specs.Fmt.{signed_decimal, digit_glyph, option_append}
use Rattle.rows.specs.declared.key.FrameKey.{FrameKey}
use Rattle.rows.specs.declared.key.LabelKey.{LabelKey}
use Rattle.rows.specs.declared.kind.Kind.{Kind}
use Rattle.rows.specs.declared.kind.Side.{Side}
use Rattle.rows.specs.declared.kind.Side.TheVariants.{Left, Right}
use Rattle.rows.specs.declared.reading.Reading.{Reading}
use Rattle.rows.specs.declared.record.Record.{Record}
use Rattle.rows.specs.declared.record.Record.TheVariants.{Pair, LeftAlone, RightAlone}
use Rattle.rows.specs.declared.row.Row.{Row}
use Rattle.rows.specs.Kinds.{kind_name}
use Rattle.rows.specs.Levels.{measured}

-- words as they stand, a number in decimal, and a signed one
abbrev pub words : String → Option (List ℕ)
words s = Some (codes s)

abbrev pub count : ℕ → Option (List ℕ)
count n = Some (decimal n)

abbrev pub signed_count : ℤ → Option (List ℕ)
signed_count z = Some (signed_decimal z)

-- a value's own text, or a dash where there is none
abbrev pub or_dash : {A : Type 0} → (A → Option (List ℕ)) → Option A → Option (List ℕ)
or_dash text None = words "-"
or_dash text (Some x) = text x

-- texts one after another
abbrev pub after : Option (List ℕ) → List (Option (List ℕ)) → Option (List ℕ)
after text [] = text
after text (next ∷ more) = option_append text (after next more)

abbrev pub line : List (Option (List ℕ)) → Option (List ℕ)
line [] = Some []
line (text ∷ more) = after text more

-- node 7 frame 1
abbrev pub frame_key_text : FrameKey → Option (List ℕ)
frame_key_text k = line (words "node " ∷ count k.node ∷ words " frame " ∷ or_dash count k.number ∷ [])

-- each byte as two hexadecimal digits, the high one first
abbrev pub hexadecimal : List ℕ → List ℕ
hexadecimal [] = []
hexadecimal (b ∷ bs) = digit_glyph false (b / 16) ∷ (digit_glyph false (b % 16) ∷ hexadecimal bs)

-- label 000102030405060708090a0b
abbrev pub label_key_text : LabelKey → Option (List ℕ)
label_key_text k = line (words "label " ∷ or_dash (λ bytes. Some (hexadecimal bytes)) k.label ∷ [])

-- moment 1000 level -60 receiver 3
abbrev pub reading_text : Reading → Option (List ℕ)
reading_text r = line (words "moment " ∷ count r.moment ∷ words " level " ∷ or_dash signed_count (measured r.level) ∷ words " receiver " ∷ count r.receiver ∷ [])

-- a row: its key, as keys of its kind are shown, and its reading
abbrev pub row_text : {K : Type 0} → (K → Option (List ℕ)) → Row K → Option (List ℕ)
row_text key_text r = line (key_text r.key ∷ words " " ∷ reading_text r.reading ∷ [])

-- a pair hops, a left row alone is lost, a right row alone is a stranger
abbrev pub record_text : Record → Option (List ℕ)
record_text (Pair left right) = line (words "hop " ∷ count left ∷ words " " ∷ count right ∷ [])
record_text (LeftAlone left) = line (words "lost " ∷ count left ∷ words " -" ∷ [])
record_text (RightAlone right) = line (words "stranger - " ∷ count right ∷ [])

abbrev pub kind_text : Kind → Option (List ℕ)
kind_text kind = Some (kind_name kind)

-- the left log is what was sent, the right log what was heard
abbrev pub side_text : Side → Option (List ℕ)
side_text Left = words "sent"
side_text Right = words "heard"
