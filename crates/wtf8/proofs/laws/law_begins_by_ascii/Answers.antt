use Rattle.wtf8.proofs.lemmas.laws.ViewLaws.{begins_by_ascii}
use Rattle.wtf8.proofs.laws.law_begins_by_ascii.Goals as goal

pub returns : goal.returns
returns c = record {
  inside = λ rest e. (begins_by_ascii c.args.whole c.args.front c.args.separator rest c.requires e).inside;
  front = λ rest e. (begins_by_ascii c.args.whole c.args.front c.args.separator rest c.requires e).front_bytes;
  separator = λ rest e. (begins_by_ascii c.args.whole c.args.front c.args.separator rest c.requires e).separator;
  after = λ rest e. (begins_by_ascii c.args.whole c.args.front c.args.separator rest c.requires e).after;
}
