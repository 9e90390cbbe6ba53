-- What a log means, from its format: bytes are read as commands, and commands as batches and a close.
use Rattle.std.specs.Prelude.{ℕ, zero, suc, ◌+◌, ◌-◌, cond, List, [], ◌∷◌, ◌++◌, length, take, drop, Ok, Err, ◌==◌, nat_le, slice_index}
use Rattle.std.specs.Int.{w8, cast_signed}
use Rattle.rows.specs.declared.reading.Reading.{Reading}
use Rattle.rows.specs.declared.row.Row.{Row}
use Rattle.sources.specs.declared.fault.SourceFault.{SourceFault}
use Rattle.sources.specs.declared.fault.SourceFault.TheVariants.{NoHeader, BadCommand, RunsOut, BadPresence}
use Rattle.sources.specs.Meaning.{Closing}
use Rattle.sources.specs.Layout.{field, Layout}

-- The commands of a log in sequence, up to its end or to the first fault.
pub data Commands (K : Type 0) : Type 0 where
  -- 01
  row : Row K → Commands K → Commands K
  -- 02 closes the batch
  close : Commands K → Commands K
  -- 03 closes a batch that has rows; then the log ends, or has bytes too many
  last : Closing → Commands K
  -- no command may stand there, or it is not whole
  broken : SourceFault → Commands K

-- moment 4, level 1 (two's complement), receiver 2
abbrev pub reading_of : List ℕ → Reading
reading_of bytes = record { moment = field 0 4 bytes; level = cast_signed w8 (slice_index bytes 4); receiver = field 5 2 bytes }

-- the row in the operands of 01
abbrev pub row_of : {K : Type 0} → Layout K → List ℕ → Row K
row_of L bytes = record { key = L.decoded (take L.width bytes); reading = reading_of (drop L.width bytes) }

-- what bytes after 03 come to
abbrev pub ended : ℕ → List ℕ → Closing
ended total [] = Ok tt
ended total (byte ∷ bytes) = Err (BadCommand (total - length (byte ∷ bytes)))

-- The commands in the last bytes of a log of so many bytes in total, past the first few, which are operands. A command's place
-- is the number of bytes before it. Of two faults at one place the one with the lower number counts: that the bytes run out
-- before that a presence is bad.
abbrev pub commands : {K : Type 0} → Layout K → ℕ → ℕ → List ℕ → Commands K
commands L total zero [] = broken (RunsOut total)
commands L total (suc n) [] = broken (RunsOut total)
commands L total (suc n) (byte ∷ bytes) = commands L total n bytes
commands L total zero (command ∷ bytes) =
    cond (command == 1)
    (cond (nat_le (L.width + 7) (length bytes))
    (cond (L.valid (take L.width bytes))
    (row (row_of L bytes) (commands L total (L.width + 7) bytes))
    (broken (BadPresence (total - length (command ∷ bytes)))))
    (broken (RunsOut (total - length (command ∷ bytes)))))
    (cond (command == 2) (close (commands L total 0 bytes))
    (cond (command == 3) (last (ended total bytes)) (broken (BadCommand (total - length (command ∷ bytes))))))

-- the operand of 00, and the commands after it
abbrev pub headed : {K : Type 0} → Layout K → ℕ → List ℕ → Commands K
headed L total [] = broken (RunsOut 0)
headed L total (code ∷ bytes) = cond (code == L.code) (commands L total 0 bytes) (broken (NoHeader 0))

-- the commands of a whole log
abbrev pub commands_of : {K : Type 0} → Layout K → List ℕ → Commands K
commands_of L [] = broken (NoHeader 0)
commands_of L (command ∷ bytes) = cond (command == 0) (headed L (length (command ∷ bytes)) bytes) (broken (NoHeader 0))

-- the batches that commands close, the first of which has rows already; one that is not closed is withheld
abbrev pub batches_from : {K : Type 0} → List (Row K) → Commands K → List (List (Row K))
batches_from rows (row r more) = batches_from (rows ++ (r ∷ [])) more
batches_from rows (close more) = rows ∷ batches_from [] more
batches_from [] (last closing) = []
batches_from (r ∷ rows) (last closing) = (r ∷ rows) ∷ []
batches_from rows (broken fault) = []

abbrev pub closing_of : {K : Type 0} → Commands K → Closing
closing_of (row r more) = closing_of more
closing_of (close more) = closing_of more
closing_of (last closing) = closing
closing_of (broken fault) = Err fault

-- the meaning of a log
abbrev pub log_batches : {K : Type 0} → Layout K → List ℕ → List (List (Row K))
log_batches L bytes = batches_from [] (commands_of L bytes)

abbrev pub log_closing : {K : Type 0} → Layout K → List ℕ → Closing
log_closing L bytes = closing_of (commands_of L bytes)
