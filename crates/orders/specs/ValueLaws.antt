-- Proofs that numbers and lists of bytes keep what a column asks of its values. They stand in specs/ because a column gives
-- the proof as a member; their statements say all that they do.
use Rattle.std.specs.Prelude.{◌≡◌, ℕ, ◌≤◌, List, refl}
use Rattle.std.specs.declared.cmp.Ordering.TheVariants.{Less, Equal, Greater}
use Rattle.std.specs.declared.cmp.Ordering.{Ordering}
use Rattle.std.proofs.Common.{sym, subst, ◌∙◌, arith}
use Rattle.std.specs.Cmp as keys
use Rattle.std.specs.Cmp.{nat_cmp_total, alike_right}
use Rattle.std.specs.Cmp.Lexicographic.{slice_cmp, nat_list_cmp_total}
use Rattle.std.specs.Ordering.{nat_cmp}
use Rattle.rows.specs.Order.{rank}
use Rattle.orders.specs.Values.{Total, by_size, by_bytes}

-- what the standard library calls a total order is one here
pub total_from : {V : Type 0} {R : V → V → Ordering} → keys.IsTotalOrder R → Total R
total_from {V} {R} o = record { turns_round = λ x y. o.antisymm y x; passes_on = λ x y z h k. go x y z (R x y) (R y z) refl refl h k }
  where
    go : (x y z : V) (p q : Ordering) → R x y ≡ p → R y z ≡ q → rank p ≤ 1 → rank q ≤ 1 → rank (R x z) ≤ 1
    go x y z Less Less e f h k = subst (λ r. rank r ≤ 1) (sym (o.trans x y z e f)) h
    go x y z Less Equal e f h k = subst (λ r. rank r ≤ 1) (sym e ∙ alike_right o y z x f) h
    go x y z Less Greater e f h k = absurd (omega arith)
    go x y z Equal q e f h k = subst (λ r. rank r ≤ 1) (sym (o.congr x y z e ∙ f)) k
    go x y z Greater q e f h k = absurd (omega arith)

pub by_size_total : Total by_size
by_size_total = total_from nat_cmp_total

pub by_bytes_lex : (xs ys : List ℕ) → slice_cmp nat_cmp xs ys ≡ by_bytes xs ys
by_bytes_lex xs ys = refl

pub by_bytes_total : Total by_bytes
by_bytes_total = total_from nat_list_cmp_total
