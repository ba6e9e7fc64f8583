-- A buffer as a value that is moved into memory.
use mathlib.Core.List.{[]}
use mir.Syntax.{impl, tnil, dnil}
use Rattle.std.proofs.BoxSteps.Form.{Bx}
use Rattle.std.specs.contracts.alloc.Global as heap
use Rattle.std.specs.contracts.impls.GlobalAllocator.TheImpl.{ghosts, dict}
use Rattle.std.proofs.alloc.Global.TheLaws as heap_laws
use Rattle.unit_text.proofs.indexed.IndexedBuf.TheLaws as buf_laws
use Rattle.wtf8_c.specs.Ownership.{Held}

abbrev pub E : Bx
E = record {
  row = Held;
  laws = buf_laws.the_row_laws heap.the_row ghosts heap_laws.the_row_laws;
  al = record { row = heap.the_row; laws = heap_laws.the_row_laws; g = ghosts; d = dict; drops = impl [] tnil dnil };
}
