-- Every line says something, or has a first fault.
use Rattle.std.proofs.Common.{◌⊎◌, inl, inr, ℕ, List, Result, Err}
use Rattle.sy_base.specs.declared.refusal.FaultName.{FaultName}
use Rattle.sy_base.specs.declared.refusal.FaultName.TheVariants.{BadToken}
use Rattle.sy_lex.specs.declared.token.Token.{Token}
use Rattle.sy_lex.specs.Tokens.{HasText}
use Rattle.sy_core.specs.declared.deed.Deed.{Deed}
use Rattle.sy_log.specs.declared.read.Entry.{Entry}
use Rattle.sy_log.specs.Entries.{IsEntry}
use Rattle.sy_log.specs.Machine.Answering.{entry_of_tokens}
use Rattle.sy_log.proofs.Cuts.{tokens_or_none}
use Rattle.sy_log.proofs.Telling.{is_entry, no_entry}

by_tokens : (deed : Deed) (bytes : List ℕ)
    → ((tokens : List Token) × HasText tokens bytes) ⊎ ((tokens : List Token) → HasText tokens bytes → ⊥)
    → (entry : Result Entry FaultName) × IsEntry deed bytes entry
by_tokens deed bytes (inl (tokens, text)) = (entry_of_tokens deed bytes tokens, is_entry deed bytes tokens text)
by_tokens deed bytes (inr none) = (Err BadToken, no_entry deed bytes none)

pub each_line_says : (deed : Deed) (bytes : List ℕ) → (entry : Result Entry FaultName) × IsEntry deed bytes entry
each_line_says deed bytes = by_tokens deed bytes (tokens_or_none bytes)
