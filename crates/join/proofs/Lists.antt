-- The last of a batch's rows.
use Rattle.std.proofs.Common.{◌≡◌, ◌-◌, List, [], ◌∷◌, length, Some, Option, refl, ap, ◌∙◌, arith}
use Rattle.std.specs.List.{slice_get}
use Rattle.std.specs.Option.{option_or}
use Rattle.machine.specs.Machine.{last_of}

pub last_is : {A : Type 0} (w : Option A) (l : List A) → option_or (slice_get l (length l - 1)) w ≡ last_of w l
last_is w [] = refl
last_is {A} w (x ∷ l) =
    let n : length (x ∷ l) - 1 ≡ length l = omega arith in
    ap (λ n. option_or (slice_get (x ∷ l) n) w) n ∙ go x l
  where
    go : (x : A) (l : List A) → option_or (slice_get (x ∷ l) (length l)) w ≡ last_of (Some x) l
    go x [] = refl
    go x (y ∷ l) = go y l
