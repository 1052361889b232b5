-- The line of a happening is read back as it.
use Rattle.std.proofs.Common.{◌≤ℤ◌, ℕ, List, [], Result, Ok, subst}
use Rattle.sy_base.specs.declared.refusal.FaultName.{FaultName}
use Rattle.sy_lex.specs.Lexemes.{lexemes_of}
use Rattle.sy_core.specs.declared.deed.Deed.{Deed}
use Rattle.sy_core.specs.declared.happening.Happening.{Happening}
use Rattle.sy_core.specs.Soundness.{HasNamesApart}
use Rattle.sy_log.specs.declared.read.Entry.{Entry}
use Rattle.sy_log.specs.declared.read.Entry.TheVariants.{Noted}
use Rattle.sy_log.specs.Entries as e
use Rattle.sy_log.specs.Entries.{IsEntry}
use Rattle.sy_log.specs.EntryText.{entry_text}
use Rattle.sy_log.specs.Happenings.{IsOfDeed}
use Rattle.sy_log.specs.Naming.{HasWords}
use Rattle.sy_log.proofs.LineFits.{line_fits}
use Rattle.sy_log.proofs.LinePieces.{line_bytes, line_pieces}
use Rattle.sy_log.proofs.LineSpells.{line_says}
use Rattle.sy_log.proofs.Pieces.{bytes_of, pieces_lex}
use Rattle.sy_log.proofs.Spells.{reads_alike}

pub entry_read_back : (deed : Deed) (happening : Happening) → HasWords deed → HasNamesApart deed → IsOfDeed deed happening
    → deed.start ≤ℤ happening.point → IsEntry deed (entry_text deed happening) (Ok (Noted happening))
entry_read_back deed happening words apart of late =
    let pieces = line_pieces deed happening in
    let cut = pieces_lex pieces (line_fits deed words apart happening of) in
    let found = (line_says deed words apart happening of late).tree (lexemes_of (bytes_of pieces) cut.0) []
    (reads_alike (lexemes_of (bytes_of pieces) cut.0) pieces cut.2) in
    let read : IsEntry deed (bytes_of pieces) (Ok (Noted happening)) =
    subst (λ (told : Result Entry FaultName). IsEntry deed (bytes_of pieces) told) found.2
    (e.written found.0 (cut.0, cut.1, found.1)) in
    subst (λ (bytes : List ℕ). IsEntry deed bytes (Ok (Noted happening))) (line_bytes deed happening) read
