-- What can be wrong with a call before its file is looked at: E1 to E6 and then E8, in order. Assumes nothing.
use Rattle.std.specs.Prelude.{not, List, [], ◌∷◌, ℕ, Ok, Err}
use Rattle.lines.specs.FirstOf.{Row, ◌⇒◌, first_of}
use Rattle.moment.specs.Moment.{is_moment}
use Rattle.tif.specs.Name.{is_name}
use Rattle.tif.specs.Received.{names_whole}
use Rattle.tst.specs.Form.{is_lent, table_sound}
use Rattle.book.specs.Form.{book_sound}
use Rattle.book.specs.Layout.{width}
use Rattle.debits.specs.Form.{debits_sound}
use Rattle.answers.specs.Card.{is_card}
use Rattle.answers.specs.Answer.{CallCheck}
use Rattle.answers.specs.declared.answer.CallFault.TheVariants.{FileName, ReceptionMoment, CodeCard, ReceivedNames, Book, OpenDebits, StationTable}

-- E5 the book, E6 open debits and marks, E8 the station table
abbrev pub lent_rows : List ℕ → List ℕ → List ℕ → List ℕ → List (Row CallCheck)
lent_rows book debits marks tst =
    (not (book_sound width book) ⇒ Err Book)
    ∷ (not (debits_sound debits marks) ⇒ Err OpenDebits)
    ∷ (not (table_sound tst) ⇒ Err StationTable)
    ∷ []

unfoldable pub check_lent : List ℕ → List ℕ → List ℕ → List ℕ → CallCheck
check_lent book debits marks tst = first_of (lent_rows book debits marks tst) (Ok tt)

-- E1 the file name, E2 the reception moment, E3 the code card, E4 the received names, then E5, E6 and E8
abbrev pub call_rows : List ℕ → List ℕ → List ℕ → List ℕ → List ℕ → List (Row CallCheck)
call_rows name received card names tst =
    (not (is_name name) ⇒ Err FileName)
    ∷ (not (is_moment received) ⇒ Err ReceptionMoment)
    ∷ (not (is_card (is_lent tst) card) ⇒ Err CodeCard)
    ∷ (not (names_whole names) ⇒ Err ReceivedNames)
    ∷ []

unfoldable pub check_call : List ℕ → List ℕ → List ℕ → List ℕ → List ℕ → List ℕ → List ℕ → List ℕ → CallCheck
check_call name received card names book debits marks tst = first_of (call_rows name received card names tst) (check_lent book debits marks tst)
