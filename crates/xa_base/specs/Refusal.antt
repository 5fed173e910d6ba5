-- The numbers and names of refusals.
use Rattle.std.specs.Prelude.{ℕ, List, codes}
use Rattle.xa_base.specs.declared.refusal.Refusal.{Refusal}
use Rattle.xa_base.specs.declared.refusal.Refusal.TheVariants.{ManagerDown, RmDown, NotOpen, Closed, UnknownTransaction, WrongThread, AlreadyStarted, Decided, NotDecided, Votes, Busy, Full, Script, Limit, LogFault, Memory}

-- the number of a refusal
abbrev pub refusal_number : Refusal → ℕ
refusal_number ManagerDown = 1
refusal_number RmDown = 2
refusal_number NotOpen = 3
refusal_number Closed = 4
refusal_number UnknownTransaction = 5
refusal_number WrongThread = 6
refusal_number AlreadyStarted = 7
refusal_number Decided = 8
refusal_number NotDecided = 9
refusal_number Votes = 10
refusal_number Busy = 11
refusal_number Full = 12
refusal_number Script = 13
refusal_number Limit = 14
refusal_number LogFault = 15
refusal_number Memory = 16

-- its name
abbrev pub refusal_name : Refusal → List ℕ
refusal_name ManagerDown = codes "ManagerDown"
refusal_name RmDown = codes "RmDown"
refusal_name NotOpen = codes "NotOpen"
refusal_name Closed = codes "Closed"
refusal_name UnknownTransaction = codes "UnknownTransaction"
refusal_name WrongThread = codes "WrongThread"
refusal_name AlreadyStarted = codes "AlreadyStarted"
refusal_name Decided = codes "Decided"
refusal_name NotDecided = codes "NotDecided"
refusal_name Votes = codes "Votes"
refusal_name Busy = codes "Busy"
refusal_name Full = codes "Full"
refusal_name Script = codes "Script"
refusal_name Limit = codes "Limit"
refusal_name LogFault = codes "LogFault"
refusal_name Memory = codes "Memory"
