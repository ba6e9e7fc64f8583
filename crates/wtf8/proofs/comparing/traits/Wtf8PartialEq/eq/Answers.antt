use Rattle.wtf8.proofs.Common.{view_form}
use Rattle.wtf8.proofs.lemmas.comparing.Order.{equal_units}
use Rattle.wtf8.proofs.comparing.traits.Wtf8PartialEq.eq.Goals as goal

pub returns-clause-units : goal.returns-clause-units
returns-clause-units c =
    let own = view_form c.args.self.now in
    let others = view_form c.args.other.now in equal_units _ own.reads others.reads own.encoded others.encoded c.eq.ensures
