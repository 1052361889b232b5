use Rattle.std.proofs.Common.{◌≡◌, ◌∙◌, inl, inr, sym, ap, subst, length, drop, ◌+◌, arith}
use Rattle.std.proofs.KnownBytes.{Consumes-more}
use Rattle.sy_outside.specs.Lines.{has_newline}
use Rattle.sy_outside.specs.Machine.Filling.{StandsFirst}
use Rattle.sy_outside.proofs.ReadLemmas.{not_true, rest_of, StartsWith-trans, StandsFirst-read, has_newline-read}
use Rattle.sy_outside.proofs.lines.fill.Goals as goal

pub returns-in-Some-clause-bytes : goal.returns-in-Some-clause-bytes
returns-in-Some-clause-bytes g c =
    Consumes-more _ _ _ c.args.held.now.items c.reads.held.items c.read_more.new.held.items c.reads.invariant.starts c.in_ok-read_more.ensures.starts c.reads.invariant.bytes c.in_ok-read_more.ensures.bytes

pub returns-in-Some-clause-place : goal.returns-in-Some-clause-place
returns-in-Some-clause-place g c =
    let size : c.len-before.result ≡ length c.reads.held.items = c.len-before.ensures ∙ c.reads.held.ok.0 in
    let rest = rest_of c.deref.result.now c.read_more.new.held.items c.len-before.result (length c.reads.held.items) c.deref.ensures.value size in
    let first : StandsFirst (drop (length c.reads.held.items) c.read_more.new.held.items) c.in-Some.place = subst (λ l. StandsFirst l c.in-Some.place) rest c.in-Some.ensures in
    subst (λ n. StandsFirst c.read_more.new.held.items (n + c.in-Some.place)) (sym size)
    (StandsFirst-read c.reads.held.items c.read_more.new.held.items c.in-Some.place c.in_ok-read_more.ensures.starts c.reads.invariant.none first)

pub reads-preserved : goal.reads-preserved
reads-preserved g c =
    let open_end = not_true c.reads.ended c.reads-test.true in
    let size : c.len-before.result ≡ length c.reads.held.items = c.len-before.ensures ∙ c.reads.held.ok.0 in
    let rest = rest_of c.deref.result.now c.read_more.new.held.items c.len-before.result (length c.reads.held.items) c.deref.ensures.value size in
    record {
      none = has_newline-read c.reads.held.items c.read_more.new.held.items c.in_ok-read_more.ensures.starts c.reads.invariant.none (ap has_newline (sym rest) ∙ c.in_default.ensures);
      starts = StartsWith-trans _ _ _ c.reads.invariant.starts c.in_ok-read_more.ensures.starts;
      bytes = Consumes-more _ _ _ c.args.held.now.items c.reads.held.items c.read_more.new.held.items c.reads.invariant.starts c.in_ok-read_more.ensures.starts c.reads.invariant.bytes c.in_ok-read_more.ensures.bytes;
      ended = λ t. elim (c.in_ok-read_more.ensures.ended t) [ inl e ↦ absurd (open_end e) | inr e ↦ inr e ];
      stays = λ t. c.in_ok-read_more.ensures.stays (c.reads.invariant.stays t);
      idle = λ e. absurd (open_end (c.reads.invariant.stays e));
      needed = inr (record {
        before = length c.reads.held.items;
        none = ap has_newline c.in_ok-read_more.ensures.starts ∙ c.reads.invariant.none;
        few = omega arith;
        last = c.in_ok-read_more.ensures.piece;
      });
      few = λ h. omega (arith, c.in_ok-read_more.ensures.piece);
      faults = c.in_ok-read_more.ensures.cause ∙ c.reads.invariant.faults;
      told = c.in_ok-read_more.ensures.told ∙ c.reads.invariant.told;
    }
