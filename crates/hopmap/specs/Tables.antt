-- The joined table of two logs, as the command line asks for it.
use Rattle.std.specs.Prelude.{◌≡◌, ℕ, ◌^◌, ◌<◌, ◌≤◌, ◌⊎◌, List, length, Ok, Err, Result}
use Rattle.std.specs.declared.cmp.Ordering.{Ordering}
use Rattle.std.specs.Option.{unwrap_or}
use Rattle.rows.specs.declared.kind.Side.{Side}
use Rattle.rows.specs.declared.kind.Side.TheVariants.{Left, Right}
use Rattle.rows.specs.declared.record.Record.{Record}
use Rattle.orders.specs.KeyOrders.{frame_across, label_across}
use Rattle.sources.specs.Meaning.{Closing}
use Rattle.sources.specs.Keys.{frames, labels}
use Rattle.sources.specs.Layout.{Layout}
use Rattle.sources.specs.Log.{log_batches, log_closing}
use Rattle.merge.specs.declared.nested_loops.TableError.{TableError}
use Rattle.merge.specs.declared.nested_loops.TableError.TheVariants as nested
use Rattle.merge.specs.Joined.{joined, filter_of}
use Rattle.hopmap.specs.declared.key_kinds.LogKind.{LogKind}
use Rattle.hopmap.specs.declared.key_kinds.LogKind.TheVariants.{Frame, Label}
use Rattle.hopmap.specs.declared.settings.Settings.{Settings}
use Rattle.hopmap.specs.declared.table.TableRefusal.{TableRefusal}
use Rattle.hopmap.specs.declared.table.TableRefusal.TheVariants.{Fault, TooLong, Memory}
use Rattle.hopmap.specs.Fetching.{all_rows}
use Rattle.hopmap.specs.KeyKinds.{told}
use Rattle.hopmap.specs.Wanted.{asked, wanted_of}

-- why nested loops gave no table
abbrev pub refusal_of : TableError → TableRefusal
refusal_of nested.TooLong = TooLong
refusal_of nested.Memory = Memory

-- all rows of a source that ends, or its fault with its side, unless memory fails
abbrev pub Loads : {A V : Type 0} → Side → List (List A) → Closing → (V → List A) → Result V TableRefusal → Type 0
Loads side batches (Ok end) items (Ok v) = items v ≡ all_rows batches
Loads side batches (Ok end) items (Err e) = e ≡ Memory
Loads side batches (Err f) items (Ok v) = ⊥
Loads side batches (Err f) items (Err e) = (e ≡ Fault side f) ⊎ (e ≡ Memory)

-- the joined table of two logs of a kind of key, whose keys compare so across
abbrev pub table_in : {K : Type 0} → Layout K → (K → K → Ordering) → Settings → List ℕ → List ℕ → List Record
table_in layout across s sent heard = joined s.kind across (filter_of asked (wanted_of s.grade s.window)) (all_rows (log_batches layout sent)) (all_rows (log_batches layout heard))

-- of frame keys, and of label keys
abbrev pub frame_table : Settings → List ℕ → List ℕ → List Record
frame_table s = table_in frames (frame_across s.choices.direction s.choices) s

abbrev pub label_table : Settings → List ℕ → List ℕ → List Record
label_table s = table_in labels (label_across s.choices) s

abbrev pub table_by : LogKind → Settings → List ℕ → List ℕ → List Record
table_by Frame = frame_table
table_by Label = label_table

-- of the kind of key that the sent log tells; one that tells none has no rows of either
abbrev pub table_of : Settings → List ℕ → List ℕ → List Record
table_of s sent heard = table_by (unwrap_or (told sent) Frame) s sent heard

-- Why two logs, which close so and have m and n rows, have no table: the sent log has a fault; or the heard log has; or a log has
-- more rows than places can name. Memory can fail at any time. Where there is a table, none of this holds.
abbrev pub RefusesBecause : {V : Type 0} → (sent heard : Closing) → (m n : ℕ) → Result V TableRefusal → Type 0
RefusesBecause sent heard m n (Ok v) = (sent ≡ Ok tt) × (heard ≡ Ok tt) × (m ≤ 2 ^ 32) × (n ≤ 2 ^ 32)
RefusesBecause sent heard m n (Err (Fault Left f)) = sent ≡ Err f
RefusesBecause sent heard m n (Err (Fault Right f)) = (sent ≡ Ok tt) × (heard ≡ Err f)
RefusesBecause sent heard m n (Err TooLong) = (sent ≡ Ok tt) × (heard ≡ Ok tt) × ((2 ^ 32 < m) ⊎ (2 ^ 32 < n))
RefusesBecause sent heard m n (Err Memory) = Unit {0}

-- both logs are read for one kind of key
abbrev pub RefusesIn : {K V : Type 0} → Layout K → (sent heard : List ℕ) → Result V TableRefusal → Type 0
RefusesIn layout sent heard r = RefusesBecause (log_closing layout sent) (log_closing layout heard) (length (all_rows (log_batches layout sent))) (length (all_rows (log_batches layout heard))) r

abbrev pub RefusesAs : {V : Type 0} → LogKind → (sent heard : List ℕ) → Result V TableRefusal → Type 0
RefusesAs Frame = RefusesIn frames
RefusesAs Label = RefusesIn labels

-- of the kind that the sent log tells
abbrev pub RefusesLogs : {V : Type 0} → (sent heard : List ℕ) → Result V TableRefusal → Type 0
RefusesLogs sent heard r = RefusesAs (unwrap_or (told sent) Frame) sent heard r
