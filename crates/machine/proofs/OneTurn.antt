-- A call of turn has one result.
use Rattle.std.proofs.Common.{◌≡◌, Bool, List, refl, subst}
use Rattle.rows.specs.declared.record.Record.{Record}
use Rattle.machine.specs.Machine.{Setting, Core, Told, Turned, answers, steps, hands}

-- the same records, the same answer, the same join and the same value of the sink
pub record SameTurn {K V : Type 0} (l : List Record) (a : Told) (s : Core K) (v : V) (l' : List Record) (a' : Told) (s' : Core K) (v' : V) : Type 0 where
  pub records : l ≡ l'
  pub answer : a ≡ a'
  pub holds : s ≡ s'
  pub sink : v ≡ v'

module _ {K V : Type 0} (c : Setting K) (fits : V → Record → Bool) (after : V → Record → V) where
  pub one_turn : {s s' s'' : Core K} {v v' v'' : V} {l l' : List Record} {a a' : Told} → Turned c fits after s v l a s' v' → Turned c fits after s v l' a' s'' v'' → SameTurn l a s' v' l' a' s'' v''
  one_turn (answers e) (answers f) = record { records = refl; answer = cc; holds = cc; sink = cc }
  one_turn (answers e) (steps f r) = cc
  one_turn (answers e) (hands f r) = cc
  one_turn (steps e r) (answers f) = cc
  one_turn (steps {s' = s} {v' = v} e r) (steps {s' = s'} {s'' = s''} {v' = v'} {v'' = v''} {l = l} {a = a} f q) =
      let z : s' ≡ s = cc in
      let y : v' ≡ v = cc in
      one_turn r (subst (λ w. Turned c fits after s w l a s'' v'') y (subst (λ w. Turned c fits after w v' l a s'' v'') z q))
  one_turn (steps e r) (hands f q) = cc
  one_turn (hands e r) (answers f) = cc
  one_turn (hands e r) (steps f q) = cc
  one_turn (hands {s' = s} {v' = v} {x = x} e r) (hands {s' = s'} {s'' = s''} {v' = v'} {v'' = v''} {x = x'} {l = l} {a = a} f q) =
      let z : s' ≡ s = cc in
      let y : v' ≡ v = cc in
      let k : x' ≡ x = cc in
      let h = one_turn r (subst (λ w. Turned c fits after s w l a s'' v'') y (subst (λ w. Turned c fits after w v' l a s'' v'') z q)) in
      let m = h.records in
      record { records = cc; answer = h.answer; holds = h.holds; sink = h.sink }
