-- The lines of a list, one more at a time. Assumes nothing.
use Rattle.std.proofs.Common.{◌≡◌, ℕ, zero, suc, ◌+◌, ◌<◌, List, [], ◌∷◌, ◌++◌, length, get_or, take, sym, ap, ◌∙◌, append_assoc, append-nil, add-zero, arith}
use Rattle.report.specs.Text.{lines}

pub lines_more : {A : Type 0} (text : ℕ → A → List ℕ) (k i : ℕ) (xs : List A) (d : A) → i < length xs → lines text k (take (i + 1) xs) ≡ lines text k (take i xs) ++ text (k + i) (get_or xs i d)
lines_more text k i [] d h = absurd (omega arith)
lines_more text k zero (x ∷ xs) d h = append-nil (text k x) ∙ ap (λ m. text m x) (sym (add-zero k))
lines_more text k (suc i) (x ∷ xs) d h =
    let next : suc i + 1 ≡ suc (i + 1) = omega arith in
    let here : k + 1 + i ≡ k + suc i = omega arith in
    let first = text k x in
    let rest = lines text (k + 1) (take i xs) in
    ap (λ m. lines text k (take m (x ∷ xs))) next ∙ ap (λ t. first ++ t) (lines_more text (k + 1) i xs d (omega arith)) ∙ sym (append_assoc first rest (text (k + 1 + i) (get_or xs i d)))
    ∙ ap (λ m. (first ++ rest) ++ text m (get_or xs i d)) here
