use Rattle.wtf8.proofs.Common.{arith, rules, length, ap}
use Rattle.wtf8.proofs.lemmas.codec.Readings.{lists_have_lengths}
use Rattle.wtf8.proofs.strings.view.Wtf8.len.Goals as goal

pub returns : goal.returns
returns c =
    let s = c.args.self.now.well_formed in
    let b = lists_have_lengths s.points in
    let long = ap length s.encoded in record { bytes = search rules; at_least_units = omega arith; at_most_three_times = omega arith }
