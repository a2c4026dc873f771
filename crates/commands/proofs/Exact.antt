-- A refusal is the answer exactly where it has its cause.
use Rattle.std.proofs.Common.{◌≡◌, ℕ, List, inl, inr, Option, Result, Ok, Err, refl, sym, ap, subst}
use Rattle.family_file.specs.declared.fault.FileFault.{FileFault}
use Rattle.family.specs.Within.{DataWithin}
use Rattle.commands.specs.Causes.{Given, Refuses, IsRefused, IsAnswered, Tells}
use Rattle.commands.specs.declared.words.Command.{Command}
use Rattle.commands.specs.declared.status.Status.{Status}
use Rattle.commands.specs.declared.status.Status.TheVariants.{Done, Usage, ReadFault, File, WriteFault, NoMemory}
use Rattle.commands.proofs.Commands.{text_accepts, not_refused, refused_once}

same_fault : (x y : FileFault) → ◌≡◌ {A = Result Given FileFault} (Err x) (Err y) → x ≡ y
same_fault x y e = cc

of_given : (asked : Command) (given : Given) (before now : Option (List ℕ)) (status result : Status) → DataWithin given.family → Tells asked (Ok given) before now result → Refuses asked given status → IsAnswered status result
of_given asked given before now status Done within told refused = absurd (not_refused asked given status within (text_accepts asked given told.0 told.1) refused)
of_given asked given before now status WriteFault within told refused = absurd (not_refused asked given status within (text_accepts asked given told.0 told.1) refused)
of_given asked given before now status (File fault) within told refused = absurd (let no = told.0 in cc)
of_given asked given before now status ReadFault within told refused = inr (inl refl)
of_given asked given before now status NoMemory within told refused = inr (inr refl)
of_given asked given before now status Usage within told refused = absurd told
of_given asked given before now status result within told refused = inl (refused_once asked given result status within told.0 refused)

of_fault : (asked : Command) (fault : FileFault) (before now : Option (List ℕ)) (result : Status) → Tells asked (Err fault) before now result → IsAnswered (File fault) result
of_fault asked fault before now Done told = absurd told.1
of_fault asked fault before now WriteFault told = absurd told.1
of_fault asked fault before now (File found) told = inl (ap File (sym (same_fault fault found told.0)))
of_fault asked fault before now ReadFault told = inr (inl refl)
of_fault asked fault before now NoMemory told = inr (inr refl)
of_fault asked fault before now Usage told = absurd told
of_fault asked fault before now result told = absurd told.0

pub answered : (asked : Command) (given : Result Given FileFault) → ((g : Given) → given ≡ Ok g → DataWithin g.family) → (before now : Option (List ℕ)) (status result : Status) → Tells asked given before now result → IsRefused asked given status → IsAnswered status result
answered asked (Err fault) limits before now status result told refused = subst (λ (s : Status). IsAnswered s result) (sym refused) (of_fault asked fault before now result told)
answered asked (Ok given) limits before now status result told refused = of_given asked given before now status result (limits given refl) told refused
