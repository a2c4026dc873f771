-- The reader's own: how a function that may find no memory stands to a function of the reading.
use Rattle.std.specs.Prelude.{◌≡◌, Result, Ok, Err}
use Rattle.poly_text.specs.declared.fault.TextFault.{TextFault}
use Rattle.poly_text.specs.declared.fault.Unread.{Unread}

abbrev pub Fails : {X : Type 0} → TextFault → Result X TextFault → Type 0
Fails TextFault.NoMemory given = Unit {0}
Fails fault given = given ≡ Err fault

-- the result is the one given, unless memory ran out
abbrev pub Answers : {X : Type 0} → Result X TextFault → Result X TextFault → Type 0
Answers (Ok x) given = given ≡ Ok x
Answers (Err fault) given = Fails fault given

-- the same of what view makes of the result
abbrev pub Gives : {X Y : Type 0} → (X → Y) → Result X TextFault → Result Y TextFault → Type 0
Gives view (Ok x) given = given ≡ Ok (view x)
Gives view (Err fault) given = Fails fault given

-- a fault without its kind and place
abbrev pub unread_by : TextFault → Unread
unread_by TextFault.NoMemory = Unread.NoMemory
unread_by fault = Unread.Fault
