-- Document 01's number of each reason to refuse.
use Rattle.std.specs.Prelude.{ℕ}
use Rattle.turn.specs.declared.Reason.{Reason}
use Rattle.turn.specs.declared.Reason.TheVariants.{TooManyLinks, WrongLengths, WrongLink, LinksOutOfOrder, WrongNodes}
use Rattle.turn.specs.declared.Reason.TheVariants.{EndsApart, EndsAlike, NoNextLink, WrongLastLink, WrongTable, WrongAnchor, NoParent, WrongFile}

abbrev pub number_of : Reason → ℕ
number_of TooManyLinks = 1
number_of WrongLengths = 2
number_of WrongLink = 3
number_of LinksOutOfOrder = 4
number_of WrongNodes = 5
number_of EndsApart = 6
number_of EndsAlike = 7
number_of NoNextLink = 8
number_of WrongLastLink = 9
number_of WrongTable = 10
number_of WrongAnchor = 11
number_of NoParent = 12
number_of WrongFile = 13
