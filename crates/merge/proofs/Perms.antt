-- Blocks of a list that change places.
use Rattle.std.proofs.Common.{◌≡◌, List, ◌++◌, append_assoc}
use mathlib.Core.List.Permᴰ
use mathlib.Core.List.{Permᴰ}

module _ {A : Type 0} where
  pub same : {a b : List A} → a ≡ b → Permᴰ a b
  same {a} {b} e = rw e (Permᴰ.refl b)

  pub swap_blocks : (a b c : List A) → Permᴰ (a ++ (b ++ c)) (b ++ (a ++ c))
  swap_blocks a b c = rw (← append_assoc a b c, ← append_assoc b a c) (Permᴰ.append_right c (Permᴰ.append_comm a b))

  -- a passed row's pairs and itself, put in front of what is left
  pub row_block : (a c b d e : List A) → Permᴰ ((a ++ c) ++ (b ++ (d ++ e))) ((a ++ b) ++ ((c ++ d) ++ e))
  row_block a c b d e = simp append_assoc (Permᴰ.append_left a (swap_blocks c b (d ++ e)))

  -- a passed run's rows, put in front of what is left
  pub run_block : (c a b e : List A) → Permᴰ (c ++ (a ++ (b ++ e))) (a ++ (b ++ (c ++ e)))
  run_block c a b e = Permᴰ.trans (swap_blocks c a (b ++ e)) (Permᴰ.append_left a (swap_blocks c b e))
