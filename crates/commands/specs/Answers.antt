-- What a function gave is a text or a refusal, unless it found no memory.
use Rattle.std.specs.Prelude.{ℕ, List, Vec, Result, Ok, Err, ⊤}
use Rattle.std.specs.declared.alloc.Global.{Global}
use Rattle.commands.specs.Statuses.{status_of}
use Rattle.commands.specs.declared.refusal.Refusal.{Refusal}
use Rattle.commands.specs.declared.refusal.Refusal.TheVariants.{NoMemory}
use Rattle.commands.specs.declared.status.Status.{Status}

abbrev pub IsAnswer : (List ℕ → Type 0) → (Status → Type 0) → Result (Vec ℕ Global) Refusal → Type 0
IsAnswer IsText Refuses (Ok text) = IsText text.items
IsAnswer IsText Refuses (Err NoMemory) = ⊤
IsAnswer IsText Refuses (Err refusal) = Refuses (status_of refusal)
