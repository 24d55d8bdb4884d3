use Rattle.std.proofs.Common.{◌≡◌, ◌++◌, [], get_or, sym, subst}
use Rattle.std.specs.Prelude.{IfSome}
use Rattle.cal_text.specs.Shape.{Scans}
use Rattle.cal_names.specs.Apart.{texts}
use Rattle.cal_names.specs.NameShape.{TableShape}
use Rattle.cal_names.proofs.NameShapes.{rest-same, scanned, scanned-text}
use Rattle.cal_names.proofs.table.scan.Goals as goal

pub returns-clause-scans : goal.returns-clause-scans
returns-clause-scans c =
    let names = texts c.args.names.now in
    let text = c.args.scanner.now.rest.now in
    subst (λ l. Scans (TableShape names) text l c.index_of.result) (sym (rest-same text c.reach-end.result)) (scanned names text c.reach-end.result c.index_of.result c.reach-end.ensures c.index_of.ensures.none c.index_of.ensures.value)

pub returns-clause-value : goal.returns-clause-value
returns-clause-value c =
    let names = texts c.args.names.now in
    let text = c.args.scanner.now.rest.now in
    subst (λ l. IfSome c.index_of.result (λ n. text ≡ get_or names n [] ++ l)) (sym (rest-same text c.reach-end.result)) (scanned-text names text c.reach-end.result c.index_of.result c.index_of.ensures.value)
