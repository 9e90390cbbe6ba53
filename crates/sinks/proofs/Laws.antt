-- What leads a list, a tally and a cap from one value to another, each by induction over the records.
use Rattle.std.proofs.Common.{Bool, ltb, List, [], ◌∷◌, sym, ap, ◌∙◌, append_assoc, arith}
use Rattle.std.proofs.lemmas.List.{append-nil}
use Rattle.std.proofs.lemmas.Bool.{and_parts, ltb-true}
use Rattle.rows.specs.declared.record.Record.{Record}
use Rattle.rows.specs.declared.record.Record.TheVariants.{Pair, LeftAlone, RightAlone}
use Rattle.sinks.specs.Caps.{CapHandsOn, capped_after}
use Rattle.sinks.specs.RecordLists.{ListGrows, listed_after}
use Rattle.sinks.specs.Tallies.{TallyCounts, counted}

pub list_grows : ListGrows
list_grows v v' [] e = sym e ∙ ap (λ (l : List Record). record { records = l; room = v.room }) (sym (append-nil v.records))
list_grows v v' (x ∷ records) (fits, led) =
    list_grows (listed_after v x) v' records led
    ∙ ap (λ (l : List Record). record { records = l; room = v.room }) (append_assoc v.records (x ∷ []) records)

pub tally_counts : TallyCounts
tally_counts v v' [] e =
    (omega (arith, ap (λ w. w.pairs) e), omega (arith, ap (λ w. w.left_alone) e), omega (arith, ap (λ w. w.right_alone) e))
tally_counts v v' (Pair left right ∷ records) (fits, led) =
    let rest = tally_counts (counted v (Pair left right)) v' records led in (omega arith, omega arith, omega arith)
tally_counts v v' (LeftAlone left ∷ records) (fits, led) =
    let rest = tally_counts (counted v (LeftAlone left)) v' records led in (omega arith, omega arith, omega arith)
tally_counts v v' (RightAlone right ∷ records) (fits, led) =
    let rest = tally_counts (counted v (RightAlone right)) v' records led in (omega arith, omega arith, omega arith)

pub cap_hands_on : {V : Type 0} (fitting : V → Record → Bool) (after : V → Record → V) → CapHandsOn fitting after
cap_hands_on fitting after v v' [] e = (omega (arith, ap (λ w. w.left) e), ap (λ w. w.inner) e)
cap_hands_on fitting after v v' (x ∷ records) (fits, led) =
    let rest = cap_hands_on fitting after (capped_after after v x) v' records led in
    let both = and_parts (ltb 0 v.left) (fitting v.inner x) fits in
    (omega (arith, ltb-true 0 v.left both.0), (both.1, rest.1))
