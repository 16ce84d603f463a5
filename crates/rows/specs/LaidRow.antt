-- Laying records over a row, one after the other.
use Rattle.std.specs.Prelude.{◌≡◌, refl, ℕ, suc, ◌≤◌, ◌<◌, List, ◌++◌, length, get_or, set, take, drop}
use Rattle.std.proofs.Common.{sym, ap, ◌∙◌, le_of_lt, length-take-le, take-suc, drop-cons}
use Rattle.std.proofs.Math.Seq.{length_front, append_snoc}
use Rattle.std.proofs.lemmas.List.{set_at}
use Rattle.rules.specs.declared.Step.{Step}
use Rattle.rows.specs.Row.{blanks, laid}

pub length-blanks : length blanks ≡ 64
unfolding blanks
length-blanks = refl

pub laid_none : (xs ys : List Step) → laid xs 0 ys ≡ ys
unfolding laid
laid_none xs ys = refl

-- one record more
pub laid_one : (xs ys : List Step) (i : ℕ) (d : Step) → i < length xs → i < length ys → set (laid xs i ys) i (get_or xs i d) ≡ laid xs (suc i) ys
unfolding laid
laid_one xs ys i d hx hy =
    ap (λ (l : List Step). set (take i xs ++ l) i (get_or xs i d)) (drop-cons ys i d hy)
    ∙ set_at (take i xs) (get_or ys i d) (drop (suc i) ys) (get_or xs i d) i (length-take-le i xs (le_of_lt hx))
    ∙ sym (append_snoc (take i xs) (get_or xs i d) (drop (suc i) ys))
    ∙ ap (λ (l : List Step). l ++ drop (suc i) ys) (sym (take-suc xs i d hx))

-- the row stays as long as it was
pub laid-length : (xs ys : List Step) (k : ℕ) → k ≤ length xs → k ≤ length ys → length (laid xs k ys) ≡ length ys
unfolding laid
laid-length xs ys k hx hy = length_front ys (take k xs) k (length-take-le k xs hx ∙ sym (length-take-le k ys hy))
