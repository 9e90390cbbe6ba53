-- What a list of records in memory means.
use Rattle.std.specs.Prelude.{◌≡◌, ℕ, Bool, List, [], ◌∷◌, ◌++◌, length, nat_lt}
use Rattle.rows.specs.declared.record.Record.{Record}
use Rattle.sinks.specs.Meaning.{Led}

-- the records held, oldest first, and how many there is room for
pub record Listed : Type 0 where
  pub records : List Record
  pub room : ℕ

-- a record fits where there is room for one more
abbrev pub list_fits : Listed → Record → Bool
list_fits v x = nat_lt (length v.records) v.room

abbrev pub listed_after : Listed → Record → Listed
listed_after v x = record { records = v.records ++ (x ∷ []); room = v.room }

-- the records that lead to a value stand there in their sequence, behind those held before
abbrev pub ListGrows : Type 0
ListGrows = (v v' : Listed) (records : List Record) → Led list_fits listed_after v records v'
    → v' ≡ record { records = v.records ++ records; room = v.room }
