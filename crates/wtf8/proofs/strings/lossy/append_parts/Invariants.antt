use Rattle.wtf8.proofs.Common.{◌≤◌, length, vec_capacity}
use Rattle.wtf8.proofs.lemmas.strings.LossyTexts.{ReadsParts}
use Rattle.wtf8.proofs.strings.lossy.append_parts.Given as goal

abbrev pub invariant-parts : goal.invariant-parts
invariant-parts g l = record {
  read : ReadsParts l.fn.bytes.items l.bytes.items l.fn.text l.rest;
  capacity : vec_capacity l.fn.bytes ≤ vec_capacity l.bytes;
}

abbrev pub decreases-parts : goal.decreases-parts
decreases-parts g l = length l.rest
