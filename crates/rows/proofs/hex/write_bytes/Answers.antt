use Rattle.std.proofs.Common.{◌≡◌, ℕ, ◌+◌, ◌/◌, ◌%◌, ◌<◌, true, false, List, [], ◌∷◌, ◌++◌, length, get_or, take, is_ok, is_err, Ok, Err, Result, sym, refl, ap, ◌∙◌, true≢false, arith}
use Rattle.std.proofs.lemmas.List.{take_more, take_all}
use Rattle.std.proofs.Output.{writes_in_calls_nil, has_written_append, has_written_of_eq}
use Rattle.std.specs.Fmt.{digit_glyph}
use Rattle.rows.specs.Texts.{hexadecimal}
use Rattle.rows.proofs.hex.write_bytes.Goals as goal

hexadecimal_append : (xs ys : List ℕ) → hexadecimal xs ++ hexadecimal ys ≡ hexadecimal (xs ++ ys)
hexadecimal_append [] ys = refl
hexadecimal_append (x ∷ xs) ys = ap (λ l. digit_glyph false (x / 16) ∷ (digit_glyph false (x % 16) ∷ l)) (hexadecimal_append xs ys)

one_more : (xs : List ℕ) (i : ℕ) → i < length xs → hexadecimal (take i xs) ++ hexadecimal (get_or xs i 0 ∷ []) ≡ hexadecimal (take (i + 1) xs)
one_more xs i h = hexadecimal_append (take i xs) (get_or xs i 0 ∷ []) ∙ ap hexadecimal (sym (take_more xs i 0 h))

not_both : {X E : Type 0} (r : Result X E) → is_err r ≡ true → is_ok r ≡ true → ⊥
not_both (Ok x) p q = true≢false (sym p)
not_both (Err e) p q = true≢false (sym q)

pub loop-b-init : goal.loop-b-init
loop-b-init g c plain = record { wrote = writes_in_calls_nil g.W.Write.write_str_gives c.args.f.now.writer; plain = plain }

pub returns-in_err-write_byte : goal.returns-in_err-write_byte
returns-in_err-write_byte g c = record { prints = λ plain ok. absurd (not_both c.from_residual.result c.from_residual.ensures.0 ok) }

pub loop-b-preserved : goal.loop-b-preserved
loop-b-preserved g c plain =
    let before = c.loop-b.invariant plain in
    let h : c.loop-b.b-index < length c.args.bytes.now = omega arith in
    has_written_of_eq g.W.Write.write_str_gives c.args.f.now (hexadecimal (take c.loop-b.b-index c.args.bytes.now) ++ hexadecimal (get_or c.args.bytes.now c.loop-b.b-index 0 ∷ [])) (hexadecimal (take (c.loop-b.b-index + 1) c.args.bytes.now)) c.write_byte.new.f
    (one_more c.args.bytes.now c.loop-b.b-index h)
    (has_written_append g.W.Write.write_str_gives c.args.f.now (hexadecimal (take c.loop-b.b-index c.args.bytes.now)) c.loop-b.f (hexadecimal (get_or c.args.bytes.now c.loop-b.b-index 0 ∷ [])) c.write_byte.new.f before (c.in_ok-write_byte.ensures.prints before.plain (refl {a = true})))

pub returns : goal.returns
returns g c = record {
  prints = λ plain ok. has_written_of_eq g.W.Write.write_str_gives c.args.f.now (hexadecimal (take c.loop-b.b-index c.args.bytes.now)) (hexadecimal c.args.bytes.now) c.loop-b.f (ap hexadecimal (take_all c.loop-b.b-index c.args.bytes.now c.loop-b-test.false)) (c.loop-b.invariant plain);
}
