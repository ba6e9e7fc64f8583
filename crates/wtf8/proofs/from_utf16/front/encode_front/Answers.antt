use Rattle.wtf8.proofs.lemmas.from_utf16.Front.{read_rest}
use Rattle.wtf8.proofs.from_utf16.front.encode_front.Goals as goal

pub returns-clause-rest : goal.returns-clause-rest
returns-clause-rest c = read_rest c.write_front-bytes.ensures.read
