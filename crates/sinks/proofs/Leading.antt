-- Lists of records that lead from one value of a sink to another.
use Rattle.std.proofs.Common.{◌≡◌, ℕ, ◌+◌, ◌<◌, Bool, true, false, List, [], ◌∷◌, ◌++◌, length, get_or, take, is_err, sym, refl, ◌∙◌, subst}
use Rattle.std.proofs.lemmas.List.{take_more}
use Rattle.std.proofs.lemmas.Bool.{true≢false, cond-true}
use Rattle.rows.specs.declared.record.Record.{Record}
use Rattle.sinks.specs.Meaning.{answered, left_with, Led}

-- one list leads on from where another led
pub led_on : {V : Type 0} (fitting : V → Record → Bool) (after : V → Record → V) (v w u : V) (records more : List Record)
    → Led fitting after v records w → Led fitting after w more u → Led fitting after v (records ++ more) u
led_on {V} fitting after v w u [] more e led = let P : V → Type 0 = λ z. Led fitting after z more u in subst P (sym e) led
led_on fitting after v w u (x ∷ records) more (fits, first) led = (fits, led_on fitting after (after v x) w u records more first led)

-- one record more
pub led_more : {V : Type 0} (fitting : V → Record → Bool) (after : V → Record → V) (v w : V) (records : List Record) (x : Record)
    → Led fitting after v records w → fitting w x ≡ true → Led fitting after v (records ++ x ∷ []) (after w x)
led_more fitting after v w records x led fits = led_on fitting after v w (after w x) records (x ∷ []) led (fits, refl)

-- a take that answers no error has taken a record that fitted
fitted : (b : Bool) → is_err (answered b) ≡ false → b ≡ true
fitted true e = refl
fitted false e = absurd (true≢false e)

-- the record at i was taken
pub led_next : {V : Type 0} (fitting : V → Record → Bool) (after : V → Record → V) (v w w' : V) (records : List Record) (i : ℕ) (d : Record)
    → i < length records → Led fitting after v (take i records) w
    → is_err (answered (fitting w (get_or records i d))) ≡ false → w' ≡ left_with fitting after w (get_or records i d)
    → Led fitting after v (take (i + 1) records) w'
led_next fitting after v w w' records i d within led e left =
    let fits : fitting w (get_or records i d) ≡ true = fitted _ e in
    let w'_is : w' ≡ after w (get_or records i d) = left ∙ cond-true _ _ _ fits in
    rw (take_more records i d within, w'_is) (led_more fitting after v w (take i records) (get_or records i d) led fits)
