-- Parts of a list that are moved and turned round in place.
use Rattle.std.proofs.Common.{◌≡◌, ℕ, ◌+◌, ◌-◌, ◌≤◌, List, ◌++◌, reverse, length, take, drop, sym, ap, ◌∙◌, append_assoc, append-nil, arith, take-add}
use lib.Seq.{paste}
use borrow.Rule.Slice.PartMut.{put_mid}
use Rattle.std.proofs.lemmas.List.{length-take-le, length-drop, length-append, length-reverse, take_all, take_at, drop_at, drop_all, take-append-le, take-append-drop, reverse-append, reverse-reverse, take-take}

module _ {X : Type 0} where
  -- the last n of b are copied to the place `at`
  copied : (b : List X) (at n m : ℕ) → at + n ≤ length b → m ≡ n
      → paste b at (drop (length b - n) b) m ≡ take at b ++ (drop (length b - n) b ++ drop (at + n) b)
  copied b at n m fits is =
      let last : length (drop (length b - n) b) ≤ n = omega (arith, length-drop (length b - n) b) in
      ap (paste b at (drop (length b - n) b)) is
      ∙ ap (λ l. (take at b ++ l) ++ drop (at + n) b) (take_all n (drop (length b - n) b) last)
      ∙ append_assoc (take at b) (drop (length b - n) b) (drop (at + n) b)

  -- the part between front and back is turned round
  turned : (front part back b ys : List X) (a k : ℕ) → b ≡ front ++ (part ++ back) → length front ≡ a → length part ≡ k
      → ys ≡ reverse (take k (drop a b)) → put_mid a k b ys ≡ front ++ (reverse part ++ back)
  turned front part back b ys a k is la lk made =
      let after : drop a b ≡ part ++ back = ap (drop a) is ∙ drop_at front (part ++ back) a la in
      let mid : ys ≡ reverse part = made ∙ ap (λ l. reverse (take k l)) after ∙ ap reverse (take_at part back k lk) in
      ap (λ l. l ++ (ys ++ drop k (drop a b))) (ap (take a) is ∙ take_at front (part ++ back) a la)
      ∙ ap (λ l. front ++ (l ++ drop k (drop a b))) mid
      ∙ ap (λ l. front ++ (reverse part ++ l)) (ap (drop k) after ∙ drop_at part back k lk)

  module _ (b : List X) (f u n : ℕ) (fits : f + u + n ≤ length b) where
    long_front : length (take f b) ≡ f
    long_front = length-take-le f b (omega arith)

    long_inner : length (take u (drop f b)) ≡ u
    long_inner = length-take-le u (drop f b) (omega (arith, length-drop f b))

    long_last : length (drop (length b - n) b) ≡ n
    long_last = omega (arith, length-drop (length b - n) b)

    -- The last n come in before the u that follow the first f, turned round: they are copied behind those u, both are turned
    -- round together, and the u once more by themselves.
    pub brought_in : (b₁ b₂ b₃ ys zs : List X) (m k k' : ℕ) → m ≡ n → k ≡ u + n → k' ≡ u
        → b₁ ≡ paste b (f + u) (drop (length b - n) b) m
        → ys ≡ reverse (take k (drop f b₁)) → b₂ ≡ put_mid f k b₁ ys
        → zs ≡ reverse (take k' (drop (f + n) b₂)) → b₃ ≡ put_mid (f + n) k' b₂ zs
        → b₃ ≡ take f b ++ (reverse (drop (length b - n) b) ++ (take u (drop f b) ++ drop (f + u + n) b))
    brought_in b₁ b₂ b₃ ys zs m k k' em ek ek' first turn second again third =
        let A = take f b in
        let U = take u (drop f b) in
        let R = drop (length b - n) b in
        let G = drop (f + u + n) b in
        let one : b₁ ≡ A ++ ((U ++ R) ++ G) =
        first ∙ copied b (f + u) n m fits em ∙ ap (λ l. l ++ (R ++ G)) (take-add f u b) ∙ append_assoc A U (R ++ G) ∙ ap (λ l. A ++ l) (sym (append_assoc U R G)) in
        let long : length (U ++ R) ≡ k = length-append U R ∙ omega (arith, long_inner, long_last) in
        let two : b₂ ≡ (A ++ reverse R) ++ (reverse U ++ G) =
        second ∙ turned A (U ++ R) G b₁ ys f k one long_front long turn ∙ ap (λ l. A ++ (l ++ G)) (reverse-append U R)
        ∙ ap (λ l. A ++ l) (append_assoc (reverse R) (reverse U) G) ∙ sym (append_assoc A (reverse R) (reverse U ++ G)) in
        let long_both : length (A ++ reverse R) ≡ f + n = length-append A (reverse R) ∙ omega (arith, long_front, long_last, length-reverse R) in
        let long_turned : length (reverse U) ≡ k' = omega (arith, long_inner, length-reverse U) in
        third ∙ turned (A ++ reverse R) (reverse U) G b₂ zs (f + n) k' two long_both long_turned again
        ∙ append_assoc A (reverse R) (reverse (reverse U) ++ G) ∙ ap (λ l. A ++ (reverse R ++ (l ++ G))) (reverse-reverse U)

  -- The first c of the last n, turned round, come in behind the first f; the others stay at the end: all are copied behind
  -- the first f and turned round, the others are turned round once more and copied back.
  module _ (b : List X) (f n c : ℕ) (fits : f + n ≤ length b) (fewer : c ≤ n) where
    abbrev turned_tail : List X
    turned_tail = reverse (drop (length b - n) b)

    long_n : length turned_tail ≡ n
    long_n = length-reverse (drop (length b - n) b) ∙ omega (arith, length-drop (length b - n) b)

    pub brought_oldest : (b₁ b₂ b₃ b₄ ys zs : List X) (m k k' j : ℕ) → m ≡ n → k ≡ n → k' ≡ n - c → j ≡ n - c
        → b₁ ≡ paste b f (drop (length b - n) b) m
        → ys ≡ reverse (take k (drop f b₁)) → b₂ ≡ put_mid f k b₁ ys
        → zs ≡ reverse (take k' (drop (f + c) b₂)) → b₃ ≡ put_mid (f + c) k' b₂ zs
        → b₄ ≡ paste b₃ (length b - (n - c)) (drop (f + c) b₃) j
        → (take (f + c) b₄ ≡ take f b ++ take c turned_tail) × (drop (length b - (n - c)) b₄ ≡ reverse (drop c turned_tail))
    brought_oldest b₁ b₂ b₃ b₄ ys zs m k k' j em ek ek' ej first turn second again third fourth =
        let A = take f b in
        let G = drop (f + n) b in
        let S = reverse (drop c turned_tail) in
        let at = length b - (n - c) in
        let long_a : length A ≡ f = length-take-le f b (omega arith) in
        let long_r : length (drop (length b - n) b) ≡ k = omega (arith, length-drop (length b - n) b) in
        let long_s : length S ≡ n - c = length-reverse (drop c turned_tail) ∙ length-drop c turned_tail ∙ ap (λ t. t - c) long_n in
        let one : b₁ ≡ A ++ (drop (length b - n) b ++ G) = first ∙ copied b f n m fits em in
        let two : b₂ ≡ (A ++ take c turned_tail) ++ (drop c turned_tail ++ G) =
        second ∙ turned A (drop (length b - n) b) G b₁ ys f k one long_a long_r turn ∙ ap (λ l. A ++ (l ++ G)) (sym (take-append-drop c turned_tail))
        ∙ ap (λ l. A ++ l) (append_assoc (take c turned_tail) (drop c turned_tail) G) ∙ sym (append_assoc A (take c turned_tail) (drop c turned_tail ++ G)) in
        let long_front : length (A ++ take c turned_tail) ≡ f + c = length-append A (take c turned_tail) ∙ omega (arith, long_a, length-take-le c turned_tail (omega (arith, long_n))) in
        let long_rest : length (drop c turned_tail) ≡ k' = length-drop c turned_tail ∙ omega (arith, long_n) in
        let three : b₃ ≡ (A ++ take c turned_tail) ++ (S ++ G) = third ∙ turned (A ++ take c turned_tail) (drop c turned_tail) G b₂ zs (f + c) k' two long_front long_rest again in
        let long₃ : length b₃ ≡ length b = ap length three ∙ length-append (A ++ take c turned_tail) (S ++ G) ∙ omega (arith, long_front, length-append S G, long_s, length-drop (f + n) b) in
        let moved : take j (drop (f + c) b₃) ≡ S =
        ap (λ l. take j (drop (f + c) l)) three ∙ ap (take j) (drop_at (A ++ take c turned_tail) (S ++ G) (f + c) long_front) ∙ take_at S G j (long_s ∙ sym ej) in
        let four : b₄ ≡ take at b₃ ++ S =
        fourth ∙ ap (λ l. (take at b₃ ++ l) ++ drop (at + j) b₃) moved ∙ ap (λ l. (take at b₃ ++ S) ++ l) (drop_all (at + j) b₃ (omega arith)) ∙ append-nil (take at b₃ ++ S) in
        let long_at : length (take at b₃) ≡ at = length-take-le at b₃ (omega arith) in
        let before : f + c ≤ length (take at b₃) = omega arith in (
          ap (take (f + c)) four ∙ take-append-le (f + c) (take at b₃) S before ∙ take-take (f + c) at b₃ (omega arith)
              ∙ ap (take (f + c)) three ∙ take_at (A ++ take c turned_tail) (S ++ G) (f + c) long_front,
          ap (drop at) four ∙ drop_at (take at b₃) S at long_at,
        )
