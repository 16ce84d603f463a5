-- The domain test: a digit at the front of a text, and what is left of a text, which decides where what was passed is in the domain.
use mathlib.Core.Path.{◌≡◌, refl, sym, ap, ◌∙◌}
use mathlib.Core.Bool.{true, false}
use mathlib.Core.List.{[], ◌∷◌, ◌++◌}
use Prim.Native.Nat.{ℕ, suc, ◌-◌, ◌≤◌, ◌<◌}
use native.Mathlib.Omega.{arith}
use borrow.Author.Tests.{lt-ltb, le-ltb, le-leb}
use lib.ListN.{length, take, drop, get_or, get_or-eq_default, length-append, length-drop, drop_of_length-le}
use Rattle.std.proofs.lemmas.Bool.Decides.{nat_tests}
use Rattle.std.specs.Str.{IsAscii}
use Rattle.rules.specs.Text.Bytes.{Bytes, subscript, in_domain}
use Rattle.laws_text.specs.Passes.{digit, domain-ascii, domain-digit, domain-stop}
use Rattle.text.specs.Domain.{BehindDigit}
use Rattle.text.proofs.Wrote.{drop-next, part-from}

-- ---- a digit at the front

subscript-not : (x y z : ℕ) → (x ≡ 226 → y ≡ 130 → 128 ≤ z → z ≤ 137 → ⊥) → subscript x y z ≡ false
unfolding subscript
subscript-not x y z n = grind (arith, nat_tests)

pub no-digit : (s : Bytes) → (get_or s 0 0 ≡ 226 → get_or s 1 0 ≡ 130 → 128 ≤ get_or s 2 0 → get_or s 2 0 ≤ 137 → ⊥) → digit s ≡ false
unfolding digit
no-digit s n = subscript-not (get_or s 0 0) (get_or s 1 0) (get_or s 2 0) n

third : (s : Bytes) → length s < 3 → length s ≤ 2
third s h = omega arith

-- there is no third byte
pub short-text : (s : Bytes) → length s < 3 → digit s ≡ false
short-text s h = no-digit s (λ a b c d. let z = get_or-eq_default s 0 (third s h) in omega arith)

pub digit-there : (s : Bytes) → 3 ≤ length s → get_or s 0 0 ≡ 226 → get_or s 1 0 ≡ 130 → 128 ≤ get_or s 2 0 → get_or s 2 0 ≤ 137
    → BehindDigit s (take (length s - 3) (drop 3 s))
unfolding digit subscript
digit-there s h a b c d = record {
  fits = h;
  whole = rw (a, b, le-leb 128 (get_or s 2 0) c, le-leb (get_or s 2 0) 137 d);
  behind = part-from s 3;
}

-- ---- what is left decides

ascii-part : (t u : Bytes) → IsAscii t → in_domain (t ++ u) ≡ in_domain u
ascii-part [] u h = refl
ascii-part (x ∷ t) u h = domain-ascii x (t ++ u) (lt-ltb x 128 (h 0)) ∙ ascii-part t u (λ i. h (suc i))

pub record Left (s rest : Bytes) : Type 0 where
  pub shorter : length rest ≤ length s
  pub same : in_domain rest ≡ in_domain s

pub left-all : {s rest : Bytes} → length rest ≤ length s → in_domain rest ≡ in_domain s → Left s rest
left-all h e = record { shorter = h; same = e }

module _ {s rest : Bytes} (m : Left s rest) where
  -- ASCII is passed
  pub left-block : (t u : Bytes) → t ++ u ≡ rest → IsAscii t → Left s u
  left-block t u e h = record {
    shorter = omega (arith, m.shorter, simp length-append at (ap length e));
    same = sym (ascii-part t u h) ∙ ap in_domain e ∙ m.same;
  }

  pub left-byte : 0 < length rest → get_or rest 0 0 < 128 → Left s (take (length rest - 1) (drop 1 rest))
  left-byte h l = record {
    shorter = rw (part-from rest 1) (omega (arith, m.shorter, length-drop 1 rest));
    same = rw (part-from rest 1) (sym (ap in_domain (drop-next rest 0 h) ∙ domain-ascii (get_or rest 0 0) (drop 1 rest) (lt-ltb (get_or rest 0 0) 128 l)) ∙ m.same);
  }

  -- a digit is passed, and what follows it decides
  pub left-digit : {others next : Bytes} → 128 ≤ get_or rest 0 0 → BehindDigit rest others → Left others next → Left s next
  left-digit {others} {next} h b n =
      let e = three b.fits in
      record {
        shorter = omega (arith, m.shorter, n.shorter, ap length b.behind, length-drop 3 rest);
        same =
            let d = domain-digit (get_or rest 0 0) (get_or rest 1 0) (get_or rest 2 0) (drop 3 rest) (le-ltb (get_or rest 0 0) 128 h) (rw e at b.whole) in
            n.same ∙ ap in_domain b.behind ∙ sym (ap in_domain e ∙ d) ∙ m.same;
      }
    where
      three : 3 ≤ length rest → rest ≡ get_or rest 0 0 ∷ get_or rest 1 0 ∷ get_or rest 2 0 ∷ drop 3 rest
      three l = drop-next rest 0 (omega arith) ∙ rw (drop-next rest 1 (omega arith), drop-next rest 2 (omega arith))

  pub left-stop : 0 < length rest → 128 ≤ get_or rest 0 0 → digit rest ≡ false → false ≡ in_domain s
  left-stop l h e =
      let n = drop-next rest 0 l in
      sym (domain-stop (get_or rest 0 0) (drop 1 rest) (le-ltb (get_or rest 0 0) 128 h) (rw n at e)) ∙ sym (ap in_domain n) ∙ m.same

  pub left-none : length rest < 1 → true ≡ in_domain s
  unfolding in_domain
  left-none h = sym (ap in_domain (drop_of_length-le rest {i = 0} (omega arith))) ∙ m.same
