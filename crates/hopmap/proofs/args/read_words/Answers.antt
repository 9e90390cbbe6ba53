use Rattle.std.proofs.Common.{◌≡◌, ℕ, ◌+◌, ◌<◌, List, ◌∷◌, length, get_or, drop, drop-cons, map, string_bytes, Ok, Err, Result, inl, inr, sym, refl, ap, subst, ◌∙◌, add-one, arith, rules}
use Rattle.std.proofs.lemmas.List.{length-map}
use Rattle.std.proofs.Math.ListN.{get_or-map}
use Rattle.hopmap.specs.declared.args.CallError.{CallError}
use Rattle.hopmap.specs.declared.args.Command.{Command}
use Rattle.hopmap.specs.declared.args.Progress.{Progress}
use Rattle.hopmap.specs.declared.verb.Verb.{Verb}
use Rattle.hopmap.specs.Words.{Word, ReadsWord, ReadsWords}
use Rattle.hopmap.proofs.args.read_words.Goals as goal

-- the texts from a word on are its own and those after it
texts_from : {A B : Type 0} (f : A → B) (xs : List A) (i : ℕ) (x : A) (text : B) → i < length xs → x ≡ get_or xs i x → text ≡ f x → drop i (map f xs) ≡ text ∷ drop (i + 1) (map f xs)
texts_from f xs i x text h e t =
    let within : i < length (map f xs) = omega (arith, h, length-map xs f) in
    drop-cons (map f xs) i (f x) within ∙ (λ k. (get_or-map f xs i x ∙ ap f (sym e) ∙ sym t) k ∷ drop (sym (add-one i) k) (map f xs))

module _ (verb : Verb) (p : Progress) (texts more : List (List ℕ)) (word : Word) (from : texts ≡ word.now ∷ more) where
  ends : (e : CallError) (r : Result Command CallError) → r ≡ Err e → ReadsWord verb p word (Err e) → ReadsWords verb p texts r
  ends e r is h = subst (λ ts. ReadsWords verb p ts r) (sym from) (word, refl, inr (e, h, is))

  goes_on : (q : Progress) (r : Result Command CallError) → ReadsWord verb p word (Ok q) → ReadsWords verb q more r → ReadsWords verb p texts r
  goes_on q r h k = subst (λ ts. ReadsWords verb p ts r) (sym from) (word, refl, inl (q, h, k))

pub returns-in_err-word : goal.returns-in_err-word
returns-in_err-word c =
    let words = c.args.words.now in
    let from = texts_from string_bytes words c.loop-word.word-index c.word-item.result c.as_str.result.now c.loop-word-test.true c.word-item.is c.as_str.ensures.value in
    let is : c.from_residual.result ≡ Err c.in_err-word.field-0.0 = search rules in
    c.loop-word.invariant c.from_residual.result (ends c.args.verb c.loop-word.progress _ _ c.as_str.result from c.in_err-word.field-0.0 c.from_residual.result is c.in_err-word.ensures)

pub loop-word-preserved : goal.loop-word-preserved
loop-word-preserved c = λ r h.
    let words = c.args.words.now in
    let from = texts_from string_bytes words c.loop-word.word-index c.word-item.result c.as_str.result.now c.loop-word-test.true c.word-item.is c.as_str.ensures.value in
    c.loop-word.invariant r (goes_on c.args.verb c.loop-word.progress _ _ c.as_str.result from c.word.new.self r c.in_ok-word.ensures h)
