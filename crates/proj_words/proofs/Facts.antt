-- What the exchanged words of a step say: the loops over them, and their laws.
use Rattle.std.proofs.Common.{◌≡◌, refl, sym, ap, subst, ◌∙◌, Bool, true, false, cond, ◌&&◌, ◌||◌, [], ◌∷◌, ℕ, suc, ◌+◌, ◌<◌, ◌≤◌, length, drop, Option, None, Some, arith, not, eqb, Bor}
use borrow.Author.Tests.{ne_eqb}
use mathlib.Core.Bool.{and_assoc, and-true, or_assoc, or-false}
use Rattle.rules.specs.Text.Lists.{any_of, all_of, non_empty}
use Rattle.rules.specs.Text.Bytes.{Bytes, Words, starts}
use Rattle.rules.specs.Proj.Words.{is_proj, first_proj, in_its_place, exchanged}
use Rattle.rules.specs.Proj.Translate.{is_inv}
use Rattle.laws_proj.specs.Tidying.{count_of, last_from}
use Rattle.proj_words.specs.Facts.{IsMarked, IsMarks, IsKey}
use Rattle.proj_words.specs.declared.exchange.Marks.{Marks}

-- ---- marks

some-is : (w : Bytes) → not (eqb (length w) 0) ≡ non_empty w
unfolding non_empty
some-is [] = refl
some-is (x ∷ w) = rw (ne_eqb (suc (length w)) 0 (λ e. omega arith))

pub marked : {w : Bytes} {m r : Marks} {inv : Bool} → inv ≡ is_inv w → r.inv ≡ (m.inv || inv) → r.only ≡ (m.only && inv) → r.some ≡ (m.some || not (eqb (length w) 0)) → IsMarked w m r
marked {w} {m} {r} e a b c = record { inv = rw (← e) a; only = rw (← e) b; some = rw (← some-is w) c }

-- the marks of the words in front of `rest`
pub record Marking (ws rest : Words) (m : Marks) : Type 0 where
  pub inv : any_of is_inv ws ≡ (m.inv || any_of is_inv rest)
  pub only : all_of is_inv ws ≡ (m.only && all_of is_inv rest)
  pub some : any_of non_empty ws ≡ (m.some || any_of non_empty rest)

pub marking-start : (ws : Words) → Marking ws ws (record { inv = false; only = true; some = false })
marking-start ws = record { inv = refl; only = refl; some = refl }

module _ {ws rest : Words} {m : Marks} (i : Marking ws rest m) where
  pub marking-end : rest ≡ [] → IsMarks ws m
  unfolding any_of all_of
  marking-end e = record {
    inv = sym (i.inv ∙ rw e (or-false m.inv));
    only = sym (i.only ∙ rw e (and-true m.only));
    some = sym (i.some ∙ rw e (or-false m.some));
  }

  pub marking-next : {w : Bytes} {more : Words} {r : Marks} → rest ≡ w ∷ more → IsMarked w m r → Marking ws more r
  unfolding any_of all_of
  marking-next {w} {more} {r} e k = record {
    inv = i.inv ∙ rw (e, k.inv) (sym (or_assoc m.inv (is_inv w) (any_of is_inv more)));
    only = i.only ∙ rw (e, k.only) (sym (and_assoc m.only (is_inv w) (all_of is_inv more)));
    some = i.some ∙ rw (e, k.some) (sym (or_assoc m.some (non_empty w) (any_of non_empty more)));
  }

-- ---- keys

-- a word before `rest`, the last that begins with the key, and what follows the key there
pub record Last (ws rest : Words) (key v : Bytes) : Type 0 where
  pub word : Bytes
  pub value : v ≡ drop (length key) word
  pub last : last_from key [] ws ≡ last_from key word rest

-- that, where one was found among n
unfoldable pub Lasting : Words → Words → Bytes → ℕ → Option (Bor Bytes) → Type 0
Lasting ws rest key n (Some v) = (0 < n) × Last ws rest key v.now
Lasting ws rest key n None = (n ≡ 0) × (last_from key [] ws ≡ last_from key [] rest)

-- n of the words in front of `rest` begin with the key
pub record Keying (ws rest : Words) (key : Bytes) (n : ℕ) (last : Option (Bor Bytes)) : Type 0 where
  pub few : n + length rest ≤ length ws
  pub count : count_of key ws ≡ n + count_of key rest
  pub found : Lasting ws rest key n last

pub keying-start : (ws : Words) (key : Bytes) → Keying ws ws key 0 None
unfolding Lasting
keying-start ws key = record { few = omega arith; count = omega arith; found = (refl, refl) }

module _ {ws rest : Words} {key : Bytes} {n : ℕ} {last : Option (Bor Bytes)} (i : Keying ws rest key n last) where
  module _ (e : rest ≡ []) where
    pub keying-none : last ≡ None → count_of key ws ≡ 0
    unfolding Lasting count_of
    keying-none z =
        let f = subst (Lasting ws rest key n) z i.found in
        let g : count_of key rest ≡ 0 = ap (count_of key) e in
        omega (arith, i.count, f.0)

    pub keying-some : {v : Bor Bytes} → last ≡ Some v → IsKey ws key (record { count = n; value = v })
    unfolding Lasting count_of last_from
    keying-some z =
        let f = subst (Lasting ws rest key n) z i.found in
        let g : count_of key rest ≡ 0 = ap (count_of key) e in
        record {
          some = f.0;
          count = omega (arith, i.count);
          value = f.1.value ∙ ap (drop (length key)) (sym (f.1.last ∙ ap (last_from key f.1.word) e));
        }

  module _ {w : Bytes} {more : Words} (e : rest ≡ w ∷ more) where
    pub keying-few : n < length ws
    keying-few = omega (arith, i.few, ap length e)

    pub keying-more : starts key w ≡ true → {v : Bor Bytes} → v.now ≡ drop (length key) w → Keying ws more key (n + 1) (Some v)
    unfolding Lasting count_of last_from
    keying-more h {v} g = record {
      few = omega (arith, i.few, ap length e);
      count = let c : count_of key rest ≡ suc (count_of key more) = ap (count_of key) e ∙ rw h in omega (arith, i.count, c);
      found = (omega arith, record { word = w; value = g; last = before last i.found });
    }
      where
        taken : (x : Bytes) → last_from key x rest ≡ last_from key w more
        taken x = ap (last_from key x) e ∙ ap (λ (b : Bool). last_from key (cond b w x) more) h

        before : (l : Option (Bor Bytes)) → Lasting ws rest key n l → last_from key [] ws ≡ last_from key w more
        before (Some x) f = f.1.last ∙ taken f.1.word
        before None f = f.1 ∙ taken []

    pub keying-next : starts key w ≡ false → Keying ws more key n last
    unfolding Lasting count_of last_from
    keying-next h = record {
      few = omega (arith, i.few, ap length e);
      count = let c : count_of key rest ≡ count_of key more = ap (count_of key) e ∙ rw h in omega (arith, i.count, c);
      found = passed last i.found;
    }
      where
        kept : (x : Bytes) → last_from key x rest ≡ last_from key x more
        kept x = ap (last_from key x) e ∙ ap (λ (b : Bool). last_from key (cond b w x) more) h

        passed : (l : Option (Bor Bytes)) → Lasting ws rest key n l → Lasting ws more key n l
        passed (Some x) f = (f.0, record { word = f.1.word; value = f.1.value; last = f.1.last ∙ kept f.1.word })
        passed None f = (f.0, f.1 ∙ kept [])

-- ---- how many words there are

place-few : (v : Bytes) (ws : Words) → length (in_its_place v ws) ≡ length ws
unfolding in_its_place
place-few v [] = refl
place-few v (w ∷ ws) = go (is_proj w) (place-few v ws)
  where
    go : (b : Bool) → length (in_its_place v ws) ≡ length ws → length (cond b (v ∷ ws) (w ∷ in_its_place v ws)) ≡ suc (length ws)
    go true h = refl
    go false h = ap suc h

pub exchanged-few : (ws : Words) → length (exchanged ws) ≡ length ws
unfolding exchanged
exchanged-few [] = refl
exchanged-few (w ∷ ws) = go (is_proj w) (any_of is_proj ws)
  where
    go : (b d : Bool) → length (cond b (drop 5 w ∷ ws) (cond d (drop 5 (first_proj ws) ∷ in_its_place w ws) (w ∷ ws))) ≡ suc (length ws)
    go true d = refl
    go false true = ap suc (place-few w ws)
    go false false = refl
