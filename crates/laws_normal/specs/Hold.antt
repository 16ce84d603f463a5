-- The ten replacements of subscript digits are one scan, `hold`, and it can be done last.
use Rattle.std.specs.Prelude.{◌≡◌, ℕ, zero, ◌-◌, Bool, ◌&&◌, ◌||◌}
use Rattle.std.proofs.Math.Path.{refl, sym, ap}
use Rattle.std.proofs.Common.{◌∙◌}
use Rattle.std.proofs.Math.Bool.{true, false, cond}
use Rattle.std.proofs.lemmas.Bool.{false≢true}
use mathlib.Core.List.{[], ◌∷◌, ◌++◌}
use borrow.Author.Tests.{eqb-true}
use Rattle.std.proofs.Math.Dec.{eqb}
use Rattle.rules.specs.Text.Bytes.{Bytes, white, starts, replace_from}
use Rattle.laws_normal.specs.Scans.{byte, or, lead, dropped, Held, none, one, two, digit, kept, hold}
use Rattle.laws_normal.specs.Tidy.{white-space, dropped-not, Place, start, inside, after, squeeze, space_due, past_white, squeeze-end, squeeze-white, squeeze-byte}

-- ---- one digit

module _ (z : ℕ) (r : eqb z z ≡ true) (n : eqb z 226 ≡ false) where
  becomes : Bytes → Bytes
  becomes t = replace_from zero (226 ∷ 130 ∷ z ∷ 61 ∷ []) (95 ∷ (z - 80) ∷ 61 ∷ []) t

  abbrev Becomes : Bytes → Type 0
  Becomes t =
      (becomes t ≡ hold (byte z) none t)
      × (becomes (226 ∷ t) ≡ hold (byte z) one t)
      × (becomes (226 ∷ 130 ∷ t) ≡ hold (byte z) two t)
      × (becomes (226 ∷ 130 ∷ z ∷ t) ≡ hold (byte z) (digit z) t)

  becomes-cons : (x : ℕ) (t : Bytes) → Becomes t → becomes (x ∷ t) ≡ hold (byte z) none (x ∷ t)
  unfolding becomes replace_from starts hold
  becomes-cons x t i = go (eqb x 226) refl
    where
      go : (b : Bool) → eqb x 226 ≡ b → becomes (x ∷ t) ≡ cond b (hold (byte z) one t) (x ∷ hold (byte z) none t)
      go true e = rw (eqb-true x 226 e) i.1
      go false e = rw e (ap (λ (u : Bytes). x ∷ u) i.0)

  becomes-more : (x : ℕ) (t : Bytes) → Becomes t → Becomes (x ∷ t)
  unfolding becomes replace_from starts hold
  becomes-more x t i = (first, second (eqb x 130) refl, third (eqb x z) refl, fourth (eqb x 61) refl)
    where
      first : becomes (x ∷ t) ≡ hold (byte z) none (x ∷ t)
      first = becomes-cons x t i

      second : (b : Bool) → eqb x 130 ≡ b → becomes (226 ∷ x ∷ t) ≡ cond b (hold (byte z) two t) (226 ∷ hold (byte z) none (x ∷ t))
      second true e = rw (eqb-true x 130 e) i.2
      second false e = rw e (ap (λ (u : Bytes). 226 ∷ u) first)

      third : (b : Bool) → eqb x z ≡ b → becomes (226 ∷ 130 ∷ x ∷ t) ≡ cond b (hold (byte z) (digit x) t) (226 ∷ 130 ∷ hold (byte z) none (x ∷ t))
      third true e = rw (eqb-true x z e) i.3
      third false e = rw e (ap (λ (u : Bytes). 226 ∷ 130 ∷ u) first)

      fourth : (b : Bool) → eqb x 61 ≡ b → becomes (226 ∷ 130 ∷ z ∷ x ∷ t) ≡ cond b (95 ∷ (z - 80) ∷ 61 ∷ hold (byte z) none t) (226 ∷ 130 ∷ z ∷ hold (byte z) none (x ∷ t))
      fourth true e = rw (r, e) (ap (λ (u : Bytes). 95 ∷ (z - 80) ∷ 61 ∷ u) i.0)
      fourth false e = rw (r, e, n) (ap (λ (u : Bytes). 226 ∷ 130 ∷ z ∷ u) first)

  becomes-all : (t : Bytes) → Becomes t
  unfolding becomes replace_from starts hold
  becomes-all [] = (refl, refl, refl, rw (r, n))
  becomes-all (x ∷ t) = becomes-more x t (becomes-all t)

  pub replace-digit : (t : Bytes) → replace_from zero (226 ∷ 130 ∷ z ∷ 61 ∷ []) (95 ∷ (z - 80) ∷ 61 ∷ []) t ≡ hold (byte z) none t
  unfolding becomes
  replace-digit t = (becomes-all t).0

-- ---- the digits together

-- what is asked of a digit's last byte, and of the plain digit
pub record Fine (z : ℕ) : Type 0 where
  pub first : eqb z 226 ≡ false
  pub solid : white z ≡ false
  pub dollar : eqb z 36 ≡ false
  pub new_first : eqb (z - 80) 226 ≡ false
  pub new_solid : white (z - 80) ≡ false
  pub new_dollar : eqb (z - 80) 36 ≡ false

abbrev pub AllFine : (ℕ → Bool) → Type 0
AllFine test = (z : ℕ) → test z ≡ true → Fine z

-- a byte that ends what is held
unfoldable pub Ends : (ℕ → Bool) → Held → ℕ → Type 0
Ends test none y = Unit {0}
Ends test one y = eqb y 130 ≡ false
Ends test two y = test y ≡ false
Ends test (digit z) y = eqb y 61 ≡ false

pub flush-byte : (test : ℕ → Bool) (h : Held) (y : ℕ) (r : Bytes) → Ends test h y → hold test h (y ∷ r) ≡ kept h ++ hold test none (y ∷ r)
unfolding hold kept Ends
flush-byte test none y r e = refl
flush-byte test one y r e = rw e
flush-byte test two y r e = rw e
flush-byte test (digit z) y r e = rw e

-- a text that begins with a byte that ends every digit
record Opens (test : ℕ → Bool) (t : Bytes) : Type 0 where
  y : ℕ
  rest : Bytes
  is : t ≡ y ∷ rest
  not_second : eqb y 130 ≡ false
  not_third : test y ≡ false
  not_fourth : eqb y 61 ≡ false

module _ (A B : ℕ → Bool) (a₁ : A 226 ≡ false) (a₂ : A 95 ≡ false) (fine : AllFine B) (apart : (z : ℕ) → B z ≡ true → A z ≡ false) where
  begins : (y : ℕ) (r : Bytes) → eqb y 130 ≡ false → A y ≡ false → eqb y 61 ≡ false → Opens A (y ∷ r)
  begins y r e f g = record { y = y; rest = r; is = refl; not_second = e; not_third = f; not_fourth = g }

  first-opens : (r : Bytes) → Opens A (226 ∷ r)
  first-opens r = begins 226 r refl a₁ refl

  AllOpen : Bytes → Type 0
  AllOpen t = Opens A (hold B one t) × Opens A (hold B two t) × ((z : ℕ) → Opens A (hold B (digit z) t))

  opens : (t : Bytes) → AllOpen t
  unfolding hold AllOpen
  opens [] = (first-opens _, first-opens _, λ z. first-opens _)
  opens (x ∷ t) = go (eqb x 130) (B x) (eqb x 61) (opens t)
    where
      go : (b c d : Bool) → AllOpen t
          → Opens A (cond b (hold B two t) (226 ∷ hold B none (x ∷ t)))
          × Opens A (cond c (hold B (digit x) t) (226 ∷ 130 ∷ hold B none (x ∷ t)))
          × ((z : ℕ) → Opens A (cond d (95 ∷ (z - 80) ∷ 61 ∷ hold B none t) (226 ∷ 130 ∷ z ∷ hold B none (x ∷ t))))
      go b c d i = (p b, q c, s d)
        where
          p : (b : Bool) → Opens A (cond b (hold B two t) (226 ∷ hold B none (x ∷ t)))
          p true = i.1
          p false = first-opens _

          q : (c : Bool) → Opens A (cond c (hold B (digit x) t) (226 ∷ 130 ∷ hold B none (x ∷ t)))
          q true = i.2 x
          q false = first-opens _

          s : (d : Bool) (z : ℕ) → Opens A (cond d (95 ∷ (z - 80) ∷ 61 ∷ hold B none t) (226 ∷ 130 ∷ z ∷ hold B none (x ∷ t)))
          s true z = begins 95 _ refl a₂ refl
          s false z = first-opens _

  flush : (h : Held) (t : Bytes) → Opens A t → hold A h t ≡ kept h ++ hold A none t
  unfolding hold kept
  flush none t o = refl
  flush one t o = rw (o.is, o.not_second)
  flush two t o = rw (o.is, o.not_third)
  flush (digit z) t o = rw (o.is, o.not_fourth)

  flush-one : (h : Held) (t : Bytes) → hold A h (hold B one t) ≡ kept h ++ hold A none (hold B one t)
  unfolding AllOpen
  flush-one h t = flush h (hold B one t) (opens t).0

  abbrev AB : ℕ → Bool
  AB = or A B

  record Both (t : Bytes) : Type 0 where
    b₀ : hold A none (hold B none t) ≡ hold AB none t
    b₁ : hold A none (hold B one t) ≡ hold AB one t
    b₂ : hold A none (hold B two t) ≡ hold AB two t
    b₃ : (z : ℕ) → B z ≡ true → hold A none (hold B (digit z) t) ≡ hold AB (digit z) t
    b₄ : (z : ℕ) → hold A (digit z) (hold B none t) ≡ hold AB (digit z) t

  both_end : Both []
  unfolding hold
  both_end = record { b₀ = refl; b₁ = refl; b₂ = refl; b₃ = λ z e. rw (apart z e, (fine z e).first); b₄ = λ z. refl }

  module _ (x : ℕ) (t : Bytes) (i : Both t) where
    both-none : hold A none (hold B none (x ∷ t)) ≡ hold AB none (x ∷ t)
    unfolding hold
    both-none = go (eqb x 226) refl
      where
        go : (b : Bool) → eqb x 226 ≡ b → hold A none (cond b (hold B one t) (x ∷ hold B none t)) ≡ cond b (hold AB one t) (x ∷ hold AB none t)
        go true e = i.b₁
        go false e = rw e (ap (λ (u : Bytes). x ∷ u) i.b₀)

    -- x ends what is held
    both_ends : (h : Held) → Ends A h x → hold A h (hold B none (x ∷ t)) ≡ kept h ++ hold AB none (x ∷ t)
    unfolding hold
    both_ends h f = go (eqb x 226) refl
      where
        go : (b : Bool) → eqb x 226 ≡ b → hold A h (cond b (hold B one t) (x ∷ hold B none t)) ≡ kept h ++ cond b (hold AB one t) (x ∷ hold AB none t)
        go true n = flush-one h t ∙ ap (λ (u : Bytes). kept h ++ u) i.b₁
        go false n = flush-byte A h x (hold B none t) f ∙ ap (λ (u : Bytes). kept h ++ u) (rw n (ap (λ (u : Bytes). x ∷ u) i.b₀))

    both_one : (b : Bool) → eqb x 130 ≡ b → hold A none (cond b (hold B two t) (226 ∷ hold B none (x ∷ t))) ≡ cond b (hold AB two t) (226 ∷ hold AB none (x ∷ t))
    unfolding hold kept Ends
    both_one true e = i.b₂
    both_one false e = both_ends one e

    not_first : A x ≡ true → (b : Bool) → eqb x 226 ≡ b → b ≡ false
    not_first f true e = sym (rw (eqb-true x 226 e) at f) ∙ a₁
    not_first f false e = refl

    both-two : (b c : Bool) → A x ≡ b → B x ≡ c
        → hold A none (cond c (hold B (digit x) t) (226 ∷ 130 ∷ hold B none (x ∷ t))) ≡ cond (b || c) (hold AB (digit x) t) (226 ∷ 130 ∷ hold AB none (x ∷ t))
    unfolding hold kept Ends
    both-two true true e f = absurd (false≢true (sym (apart x f) ∙ e))
    both-two false true e f = i.b₃ x f
    both-two true false e f = rw (not_first e (eqb x 226) refl, e) (i.b₄ x)
    both-two false false e f = both_ends two e

    both-digit : (z : ℕ) → B z ≡ true → (b : Bool) → eqb x 61 ≡ b
        → hold A none (cond b (95 ∷ (z - 80) ∷ 61 ∷ hold B none t) (226 ∷ 130 ∷ z ∷ hold B none (x ∷ t)))
        ≡ cond b (95 ∷ (z - 80) ∷ 61 ∷ hold AB none t) (226 ∷ 130 ∷ z ∷ hold AB none (x ∷ t))
    both-digit z e true f = unfold hold in rw (fine z e).new_first (ap (λ (u : Bytes). 95 ∷ (z - 80) ∷ 61 ∷ u) i.b₀)
    both-digit z e false f = digit-passed (hold B none (x ∷ t)) ∙ ap (λ (u : Bytes). 226 ∷ 130 ∷ z ∷ u) both-none
      where
        digit-passed : (u : Bytes) → hold A none (226 ∷ 130 ∷ z ∷ u) ≡ 226 ∷ 130 ∷ z ∷ hold A none u
        digit-passed u = unfold hold in rw (apart z e, (fine z e).first)

    both-held : (z : ℕ) (b : Bool) → eqb x 61 ≡ b
        → hold A (digit z) (hold B none (x ∷ t)) ≡ cond b (95 ∷ (z - 80) ∷ 61 ∷ hold AB none t) (226 ∷ 130 ∷ z ∷ hold AB none (x ∷ t))
    unfolding hold kept Ends
    both-held z true e = rw (eqb-true x 61 e) (ap (λ (u : Bytes). 95 ∷ (z - 80) ∷ 61 ∷ u) i.b₀)
    both-held z false e = both_ends (digit z) e

    both-more : Both (x ∷ t)
    unfolding hold
    both-more = record {
      b₀ = both-none;
      b₁ = both_one (eqb x 130) refl;
      b₂ = both-two (A x) (B x) refl refl;
      b₃ = λ z e. both-digit z e (eqb x 61) refl;
      b₄ = λ z. both-held z (eqb x 61) refl;
    }

  both : (t : Bytes) → Both t
  both [] = both_end
  both (x ∷ t) = both-more x t (both t)

  pub hold-or : (t : Bytes) → hold A none (hold B none t) ≡ hold (or A B) none t
  hold-or t = (both t).b₀

-- ---- it may be done after a space behind `$` is taken away

abbrev dollars : Bool → Bytes → Bytes
dollars b t = dropped (byte 36) 32 b t

module _ (test : ℕ → Bool) (fine : AllFine test) where
  record Dollars (t : Bytes) : Type 0 where
    d₀ : (b : Bool) → dollars b (hold test none t) ≡ hold test none (dollars b t)
    d₁ : (b : Bool) → dollars b (hold test one t) ≡ hold test one (dollars false t)
    d₂ : (b : Bool) → dollars b (hold test two t) ≡ hold test two (dollars false t)
    d₃ : (b : Bool) (z : ℕ) → test z ≡ true → dollars b (hold test (digit z) t) ≡ hold test (digit z) (dollars false t)

  dollars-end : Dollars []
  unfolding hold dropped
  dollars-end = record {
    d₀ = λ b. refl;
    d₁ = λ b. refl;
    d₂ = λ b. refl;
    d₃ = λ b z e. rw (white-space z (fine z e).solid);
  }

  module _ (x : ℕ) (t : Bytes) (i : Dollars t) where
    dollars-none : (b : Bool) → dollars b (hold test none (x ∷ t)) ≡ hold test none (dollars b (x ∷ t))
    unfolding hold
    dollars-none b = go (eqb x 226) refl
      where
        go : (c : Bool) → eqb x 226 ≡ c → dollars b (cond c (hold test one t) (x ∷ hold test none t)) ≡ hold test none (dollars b (x ∷ t))
        go true e = i.d₁ b ∙ sym (rw (eqb-true x 226 e) (unfold dropped in refl))
        go false e = unfold dropped in go' (eqb x 32 && b)
          where
            go' : (c : Bool) → cond c (dollars false (hold test none t)) (x ∷ dollars (eqb x 36) (hold test none t)) ≡ hold test none (cond c (dollars false t) (x ∷ dollars (eqb x 36) t))
            go' true = i.d₀ false
            go' false = rw e (ap (λ (u : Bytes). x ∷ u) (i.d₀ (eqb x 36)))

    -- what is held goes first, where x ends it
    dollars-ends : (h : Held) → Ends test h x → kept h ++ dollars false (hold test none (x ∷ t)) ≡ hold test h (dollars false (x ∷ t))
    dollars-ends h e = rw (dollars-none false, dropped-not (byte 36) 32 x t) (sym (flush-byte test h x (dollars (eqb x 36) t) e))

    dollars-one : (b c : Bool) → eqb x 130 ≡ c → dollars b (cond c (hold test two t) (226 ∷ hold test none (x ∷ t))) ≡ hold test one (dollars false (x ∷ t))
    dollars-one b true e = i.d₂ b ∙ sym (rw (eqb-true x 130 e) (unfold dropped hold in refl))
    dollars-one b false e = unfold dropped kept Ends in dollars-ends one e

    dollars-two : (b c : Bool) → test x ≡ c → dollars b (cond c (hold test (digit x) t) (226 ∷ 130 ∷ hold test none (x ∷ t))) ≡ hold test two (dollars false (x ∷ t))
    dollars-two b true e = i.d₃ b x e ∙ sym (rw (dropped-not (byte 36) 32 x t) (unfold hold in rw (e, (fine x e).dollar)))
    dollars-two b false e = unfold dropped kept Ends in dollars-ends two e

    dollars-digit : (b : Bool) (z : ℕ) → test z ≡ true → (c : Bool) → eqb x 61 ≡ c
        → dollars b (cond c (95 ∷ (z - 80) ∷ 61 ∷ hold test none t) (226 ∷ 130 ∷ z ∷ hold test none (x ∷ t))) ≡ hold test (digit z) (dollars false (x ∷ t))
    dollars-digit b z n true e = rw (eqb-true x 61 e) (unfold dropped hold in rw (white-space (z - 80) (fine z n).new_solid) (ap (λ (u : Bytes). 95 ∷ (z - 80) ∷ 61 ∷ u) (i.d₀ false)))
    dollars-digit b z n false e = unfold dropped kept Ends in rw (white-space z (fine z n).solid, (fine z n).dollar) (dollars-ends (digit z) e)

    dollars-more : Dollars (x ∷ t)
    unfolding hold
    dollars-more = record {
      d₀ = dollars-none;
      d₁ = λ b. dollars-one b (eqb x 130) refl;
      d₂ = λ b. dollars-two b (test x) refl;
      d₃ = λ b z n. dollars-digit b z n (eqb x 61) refl;
    }

  all-dollars : (t : Bytes) → Dollars t
  all-dollars [] = dollars-end
  all-dollars (x ∷ t) = dollars-more x t (all-dollars t)

  pub hold-dollars : (t : Bytes) → dropped (byte 36) 32 false (hold test none t) ≡ hold test none (dropped (byte 36) 32 false t)
  hold-dollars t = (all-dollars t).d₀ false

-- ---- and after the words are joined anew

hold-lead : (test : ℕ → Bool) (b : Bool) (t : Bytes) → hold test none (lead b t) ≡ lead b (hold test none t)
unfolding hold lead
hold-lead test true t = refl
hold-lead test false t = refl

-- after a word comes nothing, or a space
data Parted : Bytes → Type 0 where
  over : Parted []
  space : (r : Bytes) → Parted (32 ∷ r)

after-parted : (t : Bytes) → Parted (squeeze after t)
after-parted [] = rw (squeeze-end after) over
after-parted (x ∷ t) = go (white x) refl (after-parted t)
  where
    go : (b : Bool) → white x ≡ b → Parted (squeeze after t) → Parted (squeeze after (x ∷ t))
    go true e i = rw (squeeze-white after x t e) (unfold past_white in i)
    go false e i = rw (squeeze-byte after x t e) (unfold space_due lead in space _)

module _ (test : ℕ → Bool) (fine : AllFine test) where
  pub no-space : (b : Bool) → test 32 ≡ b → b ≡ false
  no-space true e = unfold white in (fine 32 e).solid
  no-space false e = refl

  flush-parted : (h : Held) (t : Bytes) → Parted t → hold test h t ≡ kept h ++ hold test none t
  unfolding hold kept
  flush-parted none _ p = refl
  flush-parted one _ over = refl
  flush-parted two _ over = refl
  flush-parted (digit z) _ over = refl
  flush-parted one _ (space r) = refl
  flush-parted two _ (space r) = rw (no-space (test 32) refl)
  flush-parted (digit z) _ (space r) = refl

  record Squeezes (t : Bytes) : Type 0 where
    s₀ : (p : Place) → squeeze p (hold test none t) ≡ hold test none (squeeze p t)
    s₁ : (p : Place) → squeeze p (hold test one t) ≡ lead (space_due p) (hold test one (squeeze inside t))
    s₂ : (p : Place) → squeeze p (hold test two t) ≡ lead (space_due p) (hold test two (squeeze inside t))
    s₃ : (p : Place) (z : ℕ) → test z ≡ true → squeeze p (hold test (digit z) t) ≡ lead (space_due p) (hold test (digit z) (squeeze inside t))

  -- bytes of a word in front
  word-one : (p : Place) (x : ℕ) (t : Bytes) → white x ≡ false → squeeze p (x ∷ t) ≡ lead (space_due p) (x ∷ squeeze inside t)
  word-one p x t e = squeeze-byte p x t e

  word_in : (x : ℕ) (t : Bytes) → white x ≡ false → squeeze inside (x ∷ t) ≡ x ∷ squeeze inside t
  unfolding space_due lead
  word_in x t e = squeeze-byte inside x t e

  word_two : (p : Place) (x y : ℕ) (t : Bytes) → white x ≡ false → white y ≡ false → squeeze p (x ∷ y ∷ t) ≡ lead (space_due p) (x ∷ y ∷ squeeze inside t)
  word_two p x y t e f = rw (squeeze-byte p x (y ∷ t) e, word_in y t f)

  word-three : (p : Place) (x y z : ℕ) (t : Bytes) → white x ≡ false → white y ≡ false → white z ≡ false → squeeze p (x ∷ y ∷ z ∷ t) ≡ lead (space_due p) (x ∷ y ∷ z ∷ squeeze inside t)
  word-three p x y z t e f g = rw (word_two p x y (z ∷ t) e f, word_in z t g)

  squeezes-end : Squeezes []
  squeezes-end = record {
    s₀ = λ p. unfold hold in rw (squeeze-end p);
    s₁ = λ p. rw (squeeze-end inside) (unfold hold white in word-one p 226 [] refl ∙ rw (squeeze-end inside));
    s₂ = λ p. rw (squeeze-end inside) (unfold hold white in word_two p 226 130 [] refl refl ∙ rw (squeeze-end inside));
    s₃ = λ p z e. rw (squeeze-end inside) (unfold hold white in word-three p 226 130 z [] refl refl (fine z e).solid ∙ rw (squeeze-end inside));
  }

  module _ (x : ℕ) (t : Bytes) (i : Squeezes t) where
    squeezes-none : (p : Place) → squeeze p (hold test none (x ∷ t)) ≡ hold test none (squeeze p (x ∷ t))
    squeezes-none p = unfold hold in go (eqb x 226) refl
      where
        plain : eqb x 226 ≡ false → (w : Bool) → white x ≡ w → squeeze p (x ∷ hold test none t) ≡ hold test none (squeeze p (x ∷ t))
        plain e true f = squeeze-white p x (hold test none t) f ∙ i.s₀ (past_white p) ∙ ap (hold test none) (sym (squeeze-white p x t f))
        plain e false f =
            squeeze-byte p x (hold test none t) f
            ∙ rw (i.s₀ inside)
            (sym (ap (hold test none) (squeeze-byte p x t f) ∙ hold-lead test (space_due p) (x ∷ squeeze inside t) ∙ ap (lead (space_due p)) (unfold hold in rw e)))

        go : (b : Bool) → eqb x 226 ≡ b → squeeze p (cond b (hold test one t) (x ∷ hold test none t)) ≡ hold test none (squeeze p (x ∷ t))
        go true e =
            i.s₁ p
            ∙ rw (eqb-true x 226 e)
            (sym (ap (hold test none) (squeeze-byte p 226 t (unfold white in refl)) ∙ hold-lead test (space_due p) (226 ∷ squeeze inside t) ∙ ap (lead (space_due p)) (unfold hold in refl)))
        go false e = plain e (white x) refl

    -- what is held goes first, where x ends it
    squeezes-ends : (h : Held) → Ends test h x → kept h ++ squeeze inside (hold test none (x ∷ t)) ≡ hold test h (squeeze inside (x ∷ t))
    squeezes-ends h e = rw (squeezes-none inside) (go (white x) refl)
      where
        go : (w : Bool) → white x ≡ w → kept h ++ hold test none (squeeze inside (x ∷ t)) ≡ hold test h (squeeze inside (x ∷ t))
        go true f = rw (squeeze-white inside x t f) (unfold past_white in sym (flush-parted h (squeeze after t) (after-parted t)))
        go false f = rw (word_in x t f) (sym (flush-byte test h x (squeeze inside t) e))

    squeezes-one : (p : Place) (c : Bool) → eqb x 130 ≡ c
        → squeeze p (cond c (hold test two t) (226 ∷ hold test none (x ∷ t))) ≡ lead (space_due p) (hold test one (squeeze inside (x ∷ t)))
    squeezes-one p true e = i.s₂ p ∙ ap (lead (space_due p)) (sym (rw (eqb-true x 130 e) (ap (hold test one) (word_in 130 t (unfold white in refl)) ∙ unfold hold in refl)))
    squeezes-one p false e = word-one p 226 _ (unfold white in refl) ∙ ap (lead (space_due p)) (unfold kept Ends in squeezes-ends one e)

    squeezes-two : (p : Place) (c : Bool) → test x ≡ c
        → squeeze p (cond c (hold test (digit x) t) (226 ∷ 130 ∷ hold test none (x ∷ t))) ≡ lead (space_due p) (hold test two (squeeze inside (x ∷ t)))
    squeezes-two p true e = i.s₃ p x e ∙ ap (lead (space_due p)) (sym (ap (hold test two) (word_in x t (fine x e).solid) ∙ unfold hold in rw e))
    squeezes-two p false e = word_two p 226 130 _ (unfold white in refl) (unfold white in refl) ∙ ap (lead (space_due p)) (unfold kept Ends in squeezes-ends two e)

    squeezes-digit : (p : Place) (z : ℕ) → test z ≡ true → (c : Bool) → eqb x 61 ≡ c
        → squeeze p (cond c (95 ∷ (z - 80) ∷ 61 ∷ hold test none t) (226 ∷ 130 ∷ z ∷ hold test none (x ∷ t))) ≡ lead (space_due p) (hold test (digit z) (squeeze inside (x ∷ t)))
    squeezes-digit p z n true e =
        word-three p 95 (z - 80) 61 (hold test none t) (unfold white in refl) (fine z n).new_solid (unfold white in refl)
        ∙ ap (lead (space_due p))
        (rw (i.s₀ inside, eqb-true x 61 e) (sym (ap (hold test (digit z)) (word_in 61 t (unfold white in refl)) ∙ unfold hold in refl)))
    squeezes-digit p z n false e =
        word-three p 226 130 z _ (unfold white in refl) (unfold white in refl) (fine z n).solid ∙ ap (lead (space_due p)) (unfold kept Ends in squeezes-ends (digit z) e)

    squeezes-more : Squeezes (x ∷ t)
    unfolding hold
    squeezes-more = record {
      s₀ = squeezes-none;
      s₁ = λ p. squeezes-one p (eqb x 130) refl;
      s₂ = λ p. squeezes-two p (test x) refl;
      s₃ = λ p z n. squeezes-digit p z n (eqb x 61) refl;
    }

  squeezes : (t : Bytes) → Squeezes t
  squeezes [] = squeezes-end
  squeezes (x ∷ t) = squeezes-more x t (squeezes t)

  pub hold-squeeze : (t : Bytes) → squeeze start (hold test none t) ≡ hold test none (squeeze start t)
  hold-squeeze t = (squeezes t).s₀ start
