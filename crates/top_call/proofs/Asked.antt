-- What words ask for, by whether they ask for workers.
use Rattle.std.proofs.Common.{◌≡◌, ℕ, List, Option, Some, None, sym, ◌∙◌, subst, ap}
use Rattle.std.proofs.lemmas.Option.{same_Some}
use Rattle.clap.specs.Walk.{Text}
use Rattle.commands.specs.Words.{command_of}
use Rattle.commands.specs.declared.words.Command.{Command}
use Rattle.commands.specs.declared.words.Command.TheVariants.{Plain}
use Rattle.top_call.specs.Words.{asked_with}

module _ (words : List Text) (found : Option ℕ) where
  pub with_workers : (workers : ℕ) → Some workers ≡ found → asked_with found words ≡ Some Plain
  with_workers workers is = ap (λ f. asked_with f words) (sym is)

  pub without_workers : None ≡ found → asked_with found words ≡ command_of words
  without_workers is = ap (λ f. asked_with f words) (sym is)

  -- what holds of `plain` holds of all that words with workers ask for
  pub for_plain : (P : Command → Type 0) (workers : ℕ) → Some workers ≡ found → P Plain → (command : Command) → asked_with found words ≡ Some command → P command
  for_plain P workers is holds command asked = subst P (same_Some Plain command (sym (with_workers workers is) ∙ asked)) holds

  -- and of what words without workers ask for, what holds of their command
  pub for_command : (P : Command → Type 0) → None ≡ found → ((command : Command) → command_of words ≡ Some command → P command) → (command : Command) → asked_with found words ≡ Some command → P command
  for_command P is holds command asked = holds command (sym (without_workers is) ∙ asked)
