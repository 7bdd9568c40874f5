-- What is read one after another.
use Rattle.std.proofs.Common.{ℕ, List, ◌++◌, sym, ap, ◌∙◌, append_assoc, arith, length-append}
use Rattle.items.specs.declared.cursor.Cursor.{Cursor}
use Rattle.items.specs.Reads.{Reads}

pub Reads-append : {x y : List ℕ} {a b c : Cursor} → Reads x a b → Reads y b c → Reads (x ++ y) a c
Reads-append {x} {y} {a} {b} {c} first second = record {
  cut = first.cut ∙ ap (λ t. x ++ t) second.cut ∙ sym (append_assoc x y c.rest.now);
  place = omega (arith, first.place, second.place, length-append x y);
}
