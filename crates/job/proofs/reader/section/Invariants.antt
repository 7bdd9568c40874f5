use Rattle.std.proofs.Common.{◌≡◌, vec_items, vec_len, vec_capacity}
use Rattle.job.proofs.Sections.{Partial}
use Rattle.job.proofs.reader.section.Given as goal

abbrev pub invariant-loop-i : goal.invariant-loop-i
invariant-loop-i g l = record {
  read_so_far : Partial g.I.Item.kind l.fn.from l.n (vec_items l.items) l.i l.next;
  len : vec_len l.items ≡ l.i;
  capacity : vec_capacity l.items ≡ vec_capacity l.initial.items;
}
