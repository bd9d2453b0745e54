-- The count fits since a byte changes it by at most one; a byte that takes it past the deepest is the first such.
use Rattle.std.proofs.Common.{◌<◌, ◌^◌, length, arith, ap, sym, ◌∙◌}
use Rattle.grammar.specs.Twins.Places.{is_open}
use Rattle.text.proofs.ScanFirst.{first_start, first_passed, first_here, first_end}
use Rattle.text.proofs.ScanDepth.{level_none, raised_fits, lowered_fits, level_raised, level_lowered, level_kept, passes_told, no_pass, not_close}
use Rattle.text.proofs.ReadSigns.{no_open}
use Rattle.text.proofs.scan.too_deep.Goals.{in-Open+else-count-gt-DEEPEST, in-Close, in_default}
use Rattle.text.proofs.scan.too_deep.Goals as goal

pub loop-i-init : goal.loop-i-init
loop-i-init c = (level_none c.args.text.now, first_start _ _)

pub overflow_add-count : goal.overflow_add-count
overflow_add-count c =
    let text = c.args.text.now in
    let long : length text < 2 ^ 63 = omega arith in
    raised_fits text c.loop-i.i c.loop-i-test.true c.loop-i.invariant.0 long

pub returns-then-count-gt-DEEPEST : goal.returns-then-count-gt-DEEPEST
returns-then-count-gt-DEEPEST c =
    let text = c.args.text.now in
    let l = c.loop-i in
    let h = c.loop-i-test.true in
    let long : length text < 2 ^ 63 = omega arith in
    let opens = sym c.from.ensures ∙ c.in-Open.is in
    let told = passes_told text l.i h opens in
    sym (l.invariant.1 ∙ first_here _ l.i _ h (told ∙ rw (← level_raised text l.i h l.invariant.0 long opens) c.if-count-gt-DEEPEST.true))

pub overflow_sub-count : goal.overflow_sub-count
overflow_sub-count c =
    let text = c.args.text.now in
    let long : length text < 2 ^ 63 = omega arith in
    lowered_fits text c.loop-i.i c.loop-i-test.true c.loop-i.invariant.0 long

pub loop-i-preserved : goal.loop-i-preserved
loop-i-preserved c =
    let text = c.args.text.now in
    let l = c.loop-i in
    let h = c.loop-i-test.true in
    let long : length text < 2 ^ 63 = omega arith in
    let here = sym c.from.ensures in
    elim c.match-from.branch [
      | in-Open+else-count-gt-DEEPEST w ↦
          let opens = here ∙ w.in-Open.is in
          let raised = level_raised text l.i h l.invariant.0 long opens in
          let told = passes_told text l.i h opens ∙ rw (← raised) w.if-count-gt-DEEPEST.false in
          (rw w.count-is raised, l.invariant.1 ∙ first_passed _ l.i _ h told)
      | in-Close w ↦
          let shuts = here ∙ w.in-Close.is in
          let told = no_pass text l.i h (ap is_open shuts) in
          (rw w.count-is (level_lowered text l.i h l.invariant.0 long shuts), l.invariant.1 ∙ first_passed _ l.i _ h told)
      | in_default w ↦
          let no_open = no_open c.from.ensures w.in_default.not-Open in
          let no_close = not_close _ (λ e. w.in_default.not-Close (c.from.ensures ∙ e)) in
          let told = no_pass text l.i h no_open in
          (rw w.count-is (level_kept text l.i h l.invariant.0 no_open no_close), l.invariant.1 ∙ first_passed _ l.i _ h told)
    ]

pub returns : goal.returns
returns c = sym (c.loop-i.invariant.1 ∙ first_end _ c.loop-i.i _ c.loop-i-test.false)
