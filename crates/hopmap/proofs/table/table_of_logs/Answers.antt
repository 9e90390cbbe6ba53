use Rattle.std.proofs.Common.{◌≡◌, ℕ, List, Ok, Err, Result, inl, inr, sym, refl, ap, ◌∙◌, subst, rules}
use Rattle.rows.specs.declared.kind.Side.TheVariants.{Left, Right}
use Rattle.sources.specs.Meaning.{Closing}
use Rattle.hopmap.specs.declared.table.TableRefusal.{TableRefusal}
use Rattle.hopmap.specs.Tables.{Loads, RefusesBecause}
use Rattle.hopmap.proofs.table.table_of_logs.Goals as goal

-- the sent log does not load
sent_refuses : {A V W : Type 0} (batches : List (List A)) (items : V → List A) (sent heard : Closing) (m n : ℕ) (e : TableRefusal) (r : Result W TableRefusal) → r ≡ Err e → Loads Left batches sent items (Err e) → RefusesBecause sent heard m n r
sent_refuses batches items (Ok end) heard m n e r is h = subst (RefusesBecause (Ok end) heard m n) (sym (is ∙ ap (λ e. Err e) h)) tt
sent_refuses batches items (Err f) heard m n e r is (inl h) = subst (RefusesBecause (Err f) heard m n) (sym (is ∙ ap (λ e. Err e) h)) refl
sent_refuses batches items (Err f) heard m n e r is (inr h) = subst (RefusesBecause (Err f) heard m n) (sym (is ∙ ap (λ e. Err e) h)) tt

-- the sent log does, and the heard one does not
heard_refuses : {A V W : Type 0} (batches batches' : List (List A)) (items : V → List A) (v : V) (sent heard : Closing) (m n : ℕ) (e : TableRefusal) (r : Result W TableRefusal) → r ≡ Err e → Loads Left batches sent items (Ok v) → Loads Right batches' heard items (Err e) → RefusesBecause sent heard m n r
heard_refuses batches batches' items v (Ok end) (Ok end') m n e r is l h = subst (RefusesBecause (Ok end) (Ok end') m n) (sym (is ∙ ap (λ e. Err e) h)) tt
heard_refuses batches batches' items v (Ok end) (Err f) m n e r is l (inl h) = subst (RefusesBecause (Ok end) (Err f) m n) (sym (is ∙ ap (λ e. Err e) h)) (refl, refl)
heard_refuses batches batches' items v (Ok end) (Err f) m n e r is l (inr h) = subst (RefusesBecause (Ok end) (Err f) m n) (sym (is ∙ ap (λ e. Err e) h)) tt
heard_refuses batches batches' items v (Err g) heard m n e r is l h = absurd l

pub returns-in_err-left-clause-refusal : goal.returns-in_err-left-clause-refusal
returns-in_err-left-clause-refusal g c = search (rules, sent_refuses)

pub returns-in_err-right-clause-refusal : goal.returns-in_err-right-clause-refusal
returns-in_err-right-clause-refusal g c = search (rules, heard_refuses)
