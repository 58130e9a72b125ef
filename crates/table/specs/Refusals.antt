-- Number and place of each refusal (document 01, "Numbers that say no").
use Rattle.std.specs.Prelude.{ℕ, List, ◌++◌, codes}
use Rattle.std.specs.Fmt.{decimal}
use Rattle.table.specs.declared.refusal.Refusal.{Refusal}
use Rattle.table.specs.declared.refusal.Refusal.TheVariants.{
  FileTooLong,
  NotTheLineDue,
  OutOfRange,
  TooManyRows,
  NotAPlan,
  NoBusyLength,
  TooShort,
  NoSuchTask,
  TooSoon,
  WrongDoneLength,
  WrongDoneByte,
  TimeUsedUp,
  ClockAtEnd,
  StateDoesNotFit,
}

-- The last clock of a run (document 01, "Guards": "The clock ends at 1,000,000,000,000").
abbrev pub last_clock : ℕ
last_clock = 1000000000000

-- The refusal's number.
abbrev pub number_of : Refusal → ℕ
number_of FileTooLong = 1
number_of (NotTheLineDue line) = 2
number_of (OutOfRange line) = 3
number_of (TooManyRows line) = 4
number_of NotAPlan = 5
number_of (NoBusyLength row) = 6
number_of (TooShort needed) = 7
number_of (NoSuchTask given) = 8
number_of (TooSoon allowed) = 9
number_of (WrongDoneLength processors) = 10
number_of (WrongDoneByte processor) = 11
number_of (TimeUsedUp processor) = 12
number_of ClockAtEnd = 13
number_of StateDoesNotFit = 14

-- The refusal's place.
abbrev pub place_of : Refusal → ℕ
place_of FileTooLong = 0
place_of (NotTheLineDue line) = line
place_of (OutOfRange line) = line
place_of (TooManyRows line) = line
place_of NotAPlan = 0
place_of (NoBusyLength row) = row
place_of (TooShort needed) = needed
place_of (NoSuchTask given) = given
place_of (TooSoon allowed) = allowed
place_of (WrongDoneLength processors) = processors
place_of (WrongDoneByte processor) = processor
place_of (TimeUsedUp processor) = processor
place_of ClockAtEnd = last_clock
place_of StateDoesNotFit = 0

-- Number and place as the line of a log, `refused=6 at=2`.
abbrev pub refusal_line : Refusal → List ℕ
refusal_line r = codes "refused=" ++ decimal (number_of r) ++ codes " at=" ++ decimal (place_of r)
