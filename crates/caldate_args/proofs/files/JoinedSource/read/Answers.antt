use Rattle.std.proofs.Common.{◌<◌, length, refl, arith}
use Rattle.std.proofs.KnownBytes.{Keeps-refl, Keeps-trans}
use Rattle.caldate_args.specs.Files.Steps.{none, some}
use Rattle.caldate_args.proofs.Joins.{ends, gives, gives_end, goes_on, keeps, kept_then, none_given}
use Rattle.caldate_args.proofs.files.JoinedSource.read.Goals as goal

pub loop-init : goal.loop-init
loop-init g c = (Keeps-refl _, λ end more. more)

pub returns-then-count-gt0-clause-bytes : goal.returns-then-count-gt0-clause-bytes
returns-then-count-gt0-clause-bytes g c = (
  kept_then _ _ _ _ c.loop.invariant.0
      (gives c.loop.self.is_unfinished _ _ _ _ c.read.new.buffer _ c.in-Ok.ensures.later c.if-count-gt0.true c.in-Ok.ensures.bound.0
      c.in-Ok.ensures.bytes.0),
  λ none. absurd (omega (arith, none, c.if-count-gt0.true)),
)

-- at the end of a text
pub returns-then-self-clause-bytes : goal.returns-then-self-clause-bytes
returns-then-self-clause-bytes g c =
    let room : 0 < length c.read.new.buffer = grind arith in
    let same = keeps c.loop.self.is_unfinished _ _ _ _ c.in-Ok.ensures.later (none_given _ _ _ _ c.if-count-gt0.false c.in-Ok.ensures.bytes.0) in
    let end = gives_end _ _ (g.T.Texts.later c.read.new.self) c.read.new.buffer c.if-self.true room (c.in-Ok.ensures.bytes.1 (omega arith) room) in (
      kept_then _ _ _ _ (Keeps-trans _ _ _ c.loop.invariant.0 same) end,
      λ one. absurd (omega (arith, one)),
    )

pub returns-then-not-go_on-clause-bytes : goal.returns-then-not-go_on-clause-bytes
returns-then-not-go_on-clause-bytes g c =
    let room : 0 < length c.read.new.buffer = grind arith in
    let same = keeps c.loop.self.is_unfinished _ _ _ _ c.in-Ok.ensures.later (none_given _ _ _ _ c.if-count-gt0.false c.in-Ok.ensures.bytes.0) in
    let last = c.if-not-go_on.ensures.last refl in
    let end = ends _ _ _ _ _ c.if-self.false (c.in-Ok.ensures.bytes.1 (omega arith) room) last.0 last.1 last.2 in
    (kept_then _ _ _ _ (Keeps-trans _ _ _ c.loop.invariant.0 same) end.0, λ _ _. end.1)

pub loop-preserved : goal.loop-preserved
loop-preserved g c =
    let room : 0 < length c.read.new.buffer = grind arith in
    let same = keeps c.loop.self.is_unfinished _ _ _ _ c.in-Ok.ensures.later (none_given _ _ _ _ c.if-count-gt0.false c.in-Ok.ensures.bytes.0) in
    let next = goes_on _ _ _ _ _ c.if-self.false (c.in-Ok.ensures.bytes.1 (omega arith) room) (c.if-not-go_on.ensures.next refl) in
    (Keeps-trans _ _ _ (Keeps-trans _ _ _ c.loop.invariant.0 same) next, λ end more. c.loop.invariant.1 end (some _ _ _ c.in-Ok.ensures.leads (some _ _ _ c.go_on.ensures.leads more)))

pub returns-clause-bytes : goal.returns-clause-bytes
returns-clause-bytes g c = c.loop.invariant.0

-- ---- the steps of the texts
pub returns-then-is_empty-clause-gives : goal.returns-then-is_empty-clause-gives
returns-then-is_empty-clause-gives g c = none _

pub returns-in-Err-clause-gives : goal.returns-in-Err-clause-gives
returns-in-Err-clause-gives g c = c.loop.invariant.1 _ (some _ _ _ c.in-Err.ensures.leads (none _))

pub returns-then-count-gt0-clause-gives : goal.returns-then-count-gt0-clause-gives
returns-then-count-gt0-clause-gives g c = c.loop.invariant.1 _ (some _ _ _ c.in-Ok.ensures.leads (none _))

pub returns-then-self-clause-gives : goal.returns-then-self-clause-gives
returns-then-self-clause-gives g c = c.loop.invariant.1 _ (some _ _ _ c.in-Ok.ensures.leads (none _))

pub returns-then-not-go_on-clause-gives : goal.returns-then-not-go_on-clause-gives
returns-then-not-go_on-clause-gives g c = c.loop.invariant.1 _ (some _ _ _ c.in-Ok.ensures.leads (some _ _ _ c.go_on.ensures.leads (none _)))

pub returns-clause-gives : goal.returns-clause-gives
returns-clause-gives g c = c.loop.invariant.1 _ (none _)
