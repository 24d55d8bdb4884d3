use Rattle.caldate_args.proofs.zones.read_zone.Goals as goal

pub returns-in-Err-parse : goal.returns-in-Err-parse
returns-in-Err-parse g c =
    let read = c.in-Ok.ensures.whole in
    (_, read.0, read.1, (λ zone is. (let e = c.in-Err-parse.ensures.every zone is in cc)), c.in-Err-parse.ensures.error)
