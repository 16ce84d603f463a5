-- All the passes behind the trims are three scans: the lines, `spoken`, and `hold`.
use Rattle.std.specs.Prelude.{◌≡◌, ℕ, zero, ◌-◌, Bool, cond, ◌&&◌, ◌||◌, not, [], ◌∷◌, ◌++◌, eqb}
use Rattle.std.proofs.Math.Path.{refl, fun_ext}
use Rattle.std.proofs.Common.{sym, ap, ◌∙◌, eqb-true}
use Rattle.std.proofs.Math.Bool.{true, false}
use Rattle.std.proofs.lemmas.Bool.{false≢true}
use Rattle.rules.specs.Text.Ascii.{ascii, is}
use Rattle.rules.specs.Text.Lists.{all_of}
use Rattle.rules.specs.Text.Bytes.{Bytes, white, starts, replace_from, replace, trimmed}
use Rattle.rules.specs.Text.Normal.{run, becomes, subscript_becomes, replacements, squeezed, continued, normal}
use Rattle.laws_lists.specs.Tests.{and_left, and_right}
use Rattle.laws_normal.specs.Scans.{byte, never, or, lead, dropped, tidy, alone, none, hold}
use Rattle.laws_normal.specs.Tidy.{replace-first, replace-second, squeezed-tidy, tidy-dropped, alone-passes, tidy-held, tidy-spread, Place, start, inside, after, squeeze, space_due, past_white, squeeze-end, squeeze-white, squeeze-byte}
use Rattle.laws_normal.specs.Hold.{replace-digit, Fine, AllFine, hold-or, hold-dollars, hold-squeeze}

-- ---- replacements 1 to 14

-- `s ` becomes `s`, and ` s` becomes `s`
shuts : (s : ℕ) → eqb 32 s ≡ false → (shut bars : ℕ → Bool) (t : Bytes)
    → replace_from zero (s ∷ 32 ∷ []) (s ∷ []) (tidy shut bars alone 32 false t) ≡ tidy (or (byte s) shut) bars alone 32 false t
shuts s n shut bars t =
    replace-first s 32 (tidy shut bars alone 32 false t)
    ∙ ap (λ (b : Bool). dropped (byte s) 32 b (tidy shut bars alone 32 false t)) (sym n)
    ∙ tidy-dropped (byte s) shut bars alone (alone-passes (byte s)) 32 false t

bars-too : (s : ℕ) → eqb s 32 ≡ false → (shut bars : ℕ → Bool) (t : Bytes)
    → replace_from zero (32 ∷ s ∷ []) (s ∷ []) (tidy shut bars alone 32 false t) ≡ tidy shut (or (byte s) bars) alone 32 false t
bars-too s n shut bars t = (replace-second s n (tidy shut bars alone 32 false t)).0 ∙ tidy-held (byte s) shut bars 32 false t

abbrev shut₁ : ℕ → Bool
shut₁ = or (byte 61) (byte 32)

abbrev shut₂ : ℕ → Bool
shut₂ = or (byte 58) shut₁

abbrev shut₃ : ℕ → Bool
shut₃ = or (byte 44) shut₂

abbrev shut₄ : ℕ → Bool
shut₄ = or (byte 124) shut₃

abbrev shut₅ : ℕ → Bool
shut₅ = or (byte 62) shut₄

abbrev pub shut₆ : ℕ → Bool
shut₆ = or (byte 60) shut₅

abbrev bars₁ : ℕ → Bool
bars₁ = or (byte 61) never

abbrev bars₂ : ℕ → Bool
bars₂ = or (byte 58) bars₁

abbrev bars₃ : ℕ → Bool
bars₃ = or (byte 44) bars₂

abbrev bars₄ : ℕ → Bool
bars₄ = or (byte 124) bars₃

abbrev bars₅ : ℕ → Bool
bars₅ = or (byte 62) bars₄

abbrev pub bars₆ : ℕ → Bool
bars₆ = or (byte 60) bars₅

abbrev drops : ℕ → Bytes → Bytes
drops s u = replace_from zero (s ∷ 32 ∷ []) (s ∷ []) u

abbrev pulls : ℕ → Bytes → Bytes
pulls s u = replace_from zero (32 ∷ s ∷ []) (s ∷ []) u

six-dropped : (t : Bytes) → drops 60 (drops 62 (drops 124 (drops 44 (drops 58 (drops 61 (tidy (byte 32) never alone 32 false t)))))) ≡ tidy shut₆ never alone 32 false t
six-dropped t = rw (shuts 61 refl (byte 32) never t, shuts 58 refl shut₁ never t, shuts 44 refl shut₂ never t, shuts 124 refl shut₃ never t, shuts 62 refl shut₄ never t, shuts 60 refl shut₅ never t)

six-pulled : (t : Bytes) → pulls 60 (pulls 62 (pulls 124 (pulls 44 (pulls 58 (pulls 61 (tidy shut₆ never alone 32 false t)))))) ≡ tidy shut₆ bars₆ alone 32 false t
six-pulled t = rw (bars-too 61 refl shut₆ never t, bars-too 58 refl shut₆ bars₁ t, bars-too 44 refl shut₆ bars₂ t, bars-too 124 refl shut₆ bars₃ t, bars-too 62 refl shut₆ bars₄ t, bars-too 60 refl shut₆ bars₅ t)

-- ---- `>` and `<`

abbrev pub inverse : Bytes
inverse = 124 ∷ 111 ∷ 109 ∷ 105 ∷ 116 ∷ 95 ∷ 105 ∷ 110 ∷ 118 ∷ []

abbrev pub forward : Bytes
forward = 124 ∷ 111 ∷ 109 ∷ 105 ∷ 116 ∷ 95 ∷ 102 ∷ 119 ∷ 100 ∷ []

abbrev inverse_space : Bytes
inverse_space = 124 ∷ 111 ∷ 109 ∷ 105 ∷ 116 ∷ 95 ∷ 105 ∷ 110 ∷ 118 ∷ 32 ∷ []

abbrev forward_space : Bytes
forward_space = 124 ∷ 111 ∷ 109 ∷ 105 ∷ 116 ∷ 95 ∷ 102 ∷ 119 ∷ 100 ∷ 32 ∷ []

-- a byte with its space, where it is one of the two
marked : ℕ → Bytes
marked x = cond (eqb x 62) inverse_space (cond (eqb x 60) forward_space (x ∷ []))

marked-is : (x : ℕ) → replace_from zero (60 ∷ []) forward_space (replace_from zero (62 ∷ []) inverse_space (x ∷ [])) ≡ marked x
unfolding replace_from starts marked
marked-is x = go (eqb x 62)
  where
    go' : (b : Bool) → cond (b && true) forward_space (x ∷ []) ≡ cond b forward_space (x ∷ [])
    go' true = refl
    go' false = refl

    go : (b : Bool) → replace_from zero (60 ∷ []) forward_space (cond (b && true) inverse_space (x ∷ [])) ≡ cond b inverse_space (cond (eqb x 60) forward_space (x ∷ []))
    go true = refl
    go false = go' (eqb x 60)

two-marked : (t : Bytes) → replace_from zero (60 ∷ []) forward_space (replace_from zero (62 ∷ []) inverse_space (tidy shut₆ bars₆ alone 32 false t)) ≡ tidy shut₆ bars₆ marked 32 false t
two-marked t =
    ap (replace_from zero (60 ∷ []) forward_space) (tidy-spread 62 inverse_space refl shut₆ bars₆ alone 32 false t)
    ∙ tidy-spread 60 forward_space refl shut₆ bars₆ _ 32 false t
    ∙ ap (λ (emit : ℕ → Bytes). tidy shut₆ bars₆ emit 32 false t) (fun_ext marked-is)

-- ---- `$`

abbrev pub shut₇ : ℕ → Bool
shut₇ = or (byte 36) shut₆

marked-passes : (x : ℕ) → white x ≡ false → (r : Bytes) (b : Bool) → dropped (byte 36) 32 b (marked x ++ r) ≡ marked x ++ dropped (byte 36) 32 (eqb x 36) r
unfolding marked
marked-passes x w r b = go (eqb x 62) refl (eqb x 60) refl
  where
    go : (c : Bool) → eqb x 62 ≡ c → (d : Bool) → eqb x 60 ≡ d
        → dropped (byte 36) 32 b (cond c inverse_space (cond d forward_space (x ∷ [])) ++ r) ≡ cond c inverse_space (cond d forward_space (x ∷ [])) ++ dropped (byte 36) 32 (eqb x 36) r
    go true e d f = rw (eqb-true x 62 e) (unfold dropped in refl)
    go false e true f = rw (eqb-true x 60 f) (unfold dropped in refl)
    go false e false f = alone-passes (byte 36) x w r b

dollar-dropped : (t : Bytes) → dropped (byte 36) 32 false (tidy shut₆ bars₆ marked 32 false t) ≡ tidy shut₇ bars₆ marked 32 false t
dollar-dropped t = tidy-dropped (byte 36) shut₆ bars₆ marked marked-passes 32 false t

-- ---- the last squeeze

-- is a space due behind the byte?
unfoldable pub due : ℕ → Bool
due x = eqb x 62 || eqb x 60

-- the byte as it is written
unfoldable pub word : ℕ → Bytes
word x = cond (eqb x 62) inverse (cond (eqb x 60) forward (x ∷ []))

-- what is written of a text, behind the byte `last`
unfoldable pub spoken : ℕ → Bool → Bytes → Bytes
spoken last gap [] = []
spoken last gap (x ∷ t) = cond (white x) (spoken last true t) (lead (due last || (not (shut₇ last || bars₆ x) && gap)) (word x ++ spoken x false t))

solid : ℕ → Bool
solid x = not (white x)

solid-is : (b : Bool) → not b ≡ true → b ≡ false
solid-is true e = sym e
solid-is false e = refl

squeeze-in : (x : ℕ) (r : Bytes) → white x ≡ false → squeeze inside (x ∷ r) ≡ x ∷ squeeze inside r
unfolding space_due lead
squeeze-in x r e = squeeze-byte inside x r e

squeeze-word : (w r : Bytes) → all_of solid w ≡ true → squeeze inside (w ++ r) ≡ w ++ squeeze inside r
unfolding all_of solid
squeeze-word [] r e = refl
squeeze-word (x ∷ w) r e =
    squeeze-in x (w ++ r) (solid-is (white x) (and_left (not (white x)) _ e)) ∙ ap (λ (u : Bytes). x ∷ u) (squeeze-word w r (and_right (not (white x)) _ e))

-- where a squeeze stands behind the byte
stands : Bool → Place
stands true = after
stands false = inside

-- a word, and the space behind it
squeeze-mark : (p : Place) (x : ℕ) (w r : Bytes) → white x ≡ false → all_of solid w ≡ true → squeeze p (x ∷ (w ++ (32 ∷ r))) ≡ lead (space_due p) (x ∷ (w ++ squeeze after r))
squeeze-mark p x w r e f =
    squeeze-byte p x (w ++ (32 ∷ r)) e
    ∙ ap (λ (u : Bytes). lead (space_due p) (x ∷ u)) (squeeze-word w (32 ∷ r) f ∙ ap (λ (u : Bytes). w ++ u) (unfold past_white in squeeze-white inside 32 r (unfold white in refl)))

squeeze-marked : (p : Place) (x : ℕ) (r : Bytes) → white x ≡ false → squeeze p (marked x ++ r) ≡ lead (space_due p) (word x ++ squeeze (stands (due x)) r)
unfolding marked word due
squeeze-marked p x r w = go (eqb x 62) (eqb x 60)
  where
    go : (c d : Bool) → squeeze p (cond c inverse_space (cond d forward_space (x ∷ [])) ++ r) ≡ lead (space_due p) (cond c inverse (cond d forward (x ∷ [])) ++ squeeze (stands (c || d)) r)
    go true d = unfold stands all_of solid white in squeeze-mark p 124 (111 ∷ 109 ∷ 105 ∷ 116 ∷ 95 ∷ 105 ∷ 110 ∷ 118 ∷ []) r refl refl
    go false true = unfold stands all_of solid white in squeeze-mark p 124 (111 ∷ 109 ∷ 105 ∷ 116 ∷ 95 ∷ 102 ∷ 119 ∷ 100 ∷ []) r refl refl
    go false false = unfold stands in squeeze-byte p x r w

-- the squeeze is at p behind the byte `last`
Stands : Place → ℕ → Type 0
Stands start last = (due last ≡ false) × (shut₇ last ≡ true)
Stands inside last = due last ≡ false
Stands after last = (due last ≡ true) × (shut₇ last ≡ true)

due-shut : (x : ℕ) → due x ≡ true → shut₇ x ≡ true
unfolding due
due-shut x e = go (eqb x 62) refl (eqb x 60) refl e
  where
    go : (c : Bool) → eqb x 62 ≡ c → (d : Bool) → eqb x 60 ≡ d → c || d ≡ true → shut₇ x ≡ true
    go true f d g e = rw (eqb-true x 62 f)
    go false f true g e = rw (eqb-true x 60 g)
    go false f false g e = absurd (false≢true e)

stands-behind : (x : ℕ) (b : Bool) → due x ≡ b → Stands (stands b) x
unfolding stands Stands
stands-behind x true e = (e, due-shut x e)
stands-behind x false e = e

speaks-lead : (p : Place) (last : ℕ) (u v : Bytes) → Stands p last → ((q : Place) → squeeze q u ≡ lead (space_due q) v) → (c g : Bool)
    → squeeze p (lead (not (shut₇ last || c) && g) u) ≡ lead (due last || (not (shut₇ last || c) && g)) v
unfolding Stands space_due
speaks-lead start last u v s h c g = rw (s.0, s.1) (unfold lead in h start)
speaks-lead after last u v s h c g = rw (s.0, s.1) (unfold lead in h after)
speaks-lead inside last u v s h c g = rw s (go (not (shut₇ last || c) && g))
  where
    go : (b : Bool) → squeeze inside (lead b u) ≡ lead b v
    go true = unfold lead in squeeze-white inside 32 u (unfold white in refl) ∙ unfold past_white in h after
    go false = unfold lead in h inside

speaks : (p : Place) (last : ℕ) (gap : Bool) (t : Bytes) → Stands p last → squeeze p (tidy shut₇ bars₆ marked last gap t) ≡ spoken last gap t
unfolding tidy spoken
speaks p last gap [] s = squeeze-end p
speaks p last gap (x ∷ t) s = go (white x) refl (speaks p last true t s) (speaks (stands (due x)) x false t (stands-behind x (due x) refl))
  where
    go : (w : Bool) → white x ≡ w
        → squeeze p (tidy shut₇ bars₆ marked last true t) ≡ spoken last true t
        → squeeze (stands (due x)) (tidy shut₇ bars₆ marked x false t) ≡ spoken x false t
        → squeeze p (cond w (tidy shut₇ bars₆ marked last true t) (lead (not (shut₇ last || bars₆ x) && gap) (marked x ++ tidy shut₇ bars₆ marked x false t)))
        ≡ cond w (spoken last true t) (lead (due last || (not (shut₇ last || bars₆ x) && gap)) (word x ++ spoken x false t))
    go true e i j = i
    go false e i j =
        rw (← j)
        (speaks-lead p last (marked x ++ tidy shut₇ bars₆ marked x false t) (word x ++ squeeze (stands (due x)) (tidy shut₇ bars₆ marked x false t)) s
        (λ q. squeeze-marked q x (tidy shut₇ bars₆ marked x false t) e) (bars₆ x) gap)

last-squeezed : (t : Bytes) → squeeze start (tidy shut₇ bars₆ marked 32 false t) ≡ spoken 32 false t
last-squeezed t = speaks start 32 false t (unfold Stands due in (refl, refl))

-- ---- the digits

digit-byte : (c : ℕ) → Fine c → AllFine (byte c)
digit-byte c f z e = rw (eqb-true z c e) f

digit_or : (A B : ℕ → Bool) → AllFine A → AllFine B → AllFine (or A B)
digit_or A B f g z e = go (A z) refl e
  where
    go : (b : Bool) → A z ≡ b → b || B z ≡ true → Fine z
    go true h e = f z h
    go false h e = g z e

digit-apart : (c : ℕ) (B : ℕ → Bool) → B c ≡ false → (z : ℕ) → B z ≡ true → eqb z c ≡ false
digit-apart c B n z e = go (eqb z c) refl
  where
    go : (b : Bool) → eqb z c ≡ b → b ≡ false
    go true f = sym (rw (eqb-true z c f) at e) ∙ n
    go false f = refl

fine₀ : Fine 128
unfolding white
fine₀ = record { first = refl; solid = refl; dollar = refl; new_first = refl; new_solid = refl; new_dollar = refl }

fine₁ : Fine 129
unfolding white
fine₁ = record { first = refl; solid = refl; dollar = refl; new_first = refl; new_solid = refl; new_dollar = refl }

fine₂ : Fine 130
unfolding white
fine₂ = record { first = refl; solid = refl; dollar = refl; new_first = refl; new_solid = refl; new_dollar = refl }

fine₃ : Fine 131
unfolding white
fine₃ = record { first = refl; solid = refl; dollar = refl; new_first = refl; new_solid = refl; new_dollar = refl }

fine₄ : Fine 132
unfolding white
fine₄ = record { first = refl; solid = refl; dollar = refl; new_first = refl; new_solid = refl; new_dollar = refl }

fine₅ : Fine 133
unfolding white
fine₅ = record { first = refl; solid = refl; dollar = refl; new_first = refl; new_solid = refl; new_dollar = refl }

fine₆ : Fine 134
unfolding white
fine₆ = record { first = refl; solid = refl; dollar = refl; new_first = refl; new_solid = refl; new_dollar = refl }

fine₇ : Fine 135
unfolding white
fine₇ = record { first = refl; solid = refl; dollar = refl; new_first = refl; new_solid = refl; new_dollar = refl }

fine₈ : Fine 136
unfolding white
fine₈ = record { first = refl; solid = refl; dollar = refl; new_first = refl; new_solid = refl; new_dollar = refl }

fine₉ : Fine 137
unfolding white
fine₉ = record { first = refl; solid = refl; dollar = refl; new_first = refl; new_solid = refl; new_dollar = refl }

abbrev digits₀ : ℕ → Bool
digits₀ = byte 128

abbrev digits₁ : ℕ → Bool
digits₁ = or (byte 129) digits₀

abbrev digits₂ : ℕ → Bool
digits₂ = or (byte 130) digits₁

abbrev digits₃ : ℕ → Bool
digits₃ = or (byte 131) digits₂

abbrev digits₄ : ℕ → Bool
digits₄ = or (byte 132) digits₃

abbrev digits₅ : ℕ → Bool
digits₅ = or (byte 133) digits₄

abbrev digits₆ : ℕ → Bool
digits₆ = or (byte 134) digits₅

abbrev digits₇ : ℕ → Bool
digits₇ = or (byte 135) digits₆

abbrev digits₈ : ℕ → Bool
digits₈ = or (byte 136) digits₇

abbrev pub digits₉ : ℕ → Bool
digits₉ = or (byte 137) digits₈

all₀ : AllFine digits₀
all₀ = digit-byte 128 fine₀

all₁ : AllFine digits₁
all₁ = digit_or (byte 129) digits₀ (digit-byte 129 fine₁) all₀

all₂ : AllFine digits₂
all₂ = digit_or (byte 130) digits₁ (digit-byte 130 fine₂) all₁

all₃ : AllFine digits₃
all₃ = digit_or (byte 131) digits₂ (digit-byte 131 fine₃) all₂

all₄ : AllFine digits₄
all₄ = digit_or (byte 132) digits₃ (digit-byte 132 fine₄) all₃

all₅ : AllFine digits₅
all₅ = digit_or (byte 133) digits₄ (digit-byte 133 fine₅) all₄

all₆ : AllFine digits₆
all₆ = digit_or (byte 134) digits₅ (digit-byte 134 fine₆) all₅

all₇ : AllFine digits₇
all₇ = digit_or (byte 135) digits₆ (digit-byte 135 fine₇) all₆

all₈ : AllFine digits₈
all₈ = digit_or (byte 136) digits₇ (digit-byte 136 fine₈) all₇

pub all₉ : AllFine digits₉
all₉ = digit_or (byte 137) digits₈ (digit-byte 137 fine₉) all₈

abbrev ten : ℕ → Bytes → Bytes
ten z u = replace_from zero (226 ∷ 130 ∷ z ∷ 61 ∷ []) (95 ∷ (z - 80) ∷ 61 ∷ []) u

ten-held : (u : Bytes) → ten 137 (ten 136 (ten 135 (ten 134 (ten 133 (ten 132 (ten 131 (ten 130 (ten 129 (ten 128 u))))))))) ≡ hold digits₉ none u
ten-held u =
    rw (replace-digit 128 refl refl u, replace-digit 129 refl refl (hold digits₀ none u), hold-or (byte 129) digits₀ refl refl all₀ (digit-apart 129 digits₀ refl) u, replace-digit 130 refl refl (hold digits₁ none u), hold-or (byte 130) digits₁ refl refl all₁ (digit-apart 130 digits₁ refl) u, replace-digit 131 refl refl (hold digits₂ none u), hold-or (byte 131) digits₂ refl refl all₂ (digit-apart 131 digits₂ refl) u, replace-digit 132 refl refl (hold digits₃ none u), hold-or (byte 132) digits₃ refl refl all₃ (digit-apart 132 digits₃ refl) u, replace-digit 133 refl refl (hold digits₄ none u), hold-or (byte 133) digits₄ refl refl all₄ (digit-apart 133 digits₄ refl) u, replace-digit 134 refl refl (hold digits₅ none u), hold-or (byte 134) digits₅ refl refl all₅ (digit-apart 134 digits₅ refl) u, replace-digit 135 refl refl (hold digits₆ none u), hold-or (byte 135) digits₆ refl refl all₆ (digit-apart 135 digits₆ refl) u, replace-digit 136 refl refl (hold digits₇ none u), hold-or (byte 136) digits₇ refl refl all₇ (digit-apart 136 digits₇ refl) u, replace-digit 137 refl refl (hold digits₈ none u), hold-or (byte 137) digits₈ refl refl all₈ (digit-apart 137 digits₈ refl) u)

-- ---- all of them

abbrev all_dropped : Bytes → Bytes
all_dropped u = drops 60 (drops 62 (drops 124 (drops 44 (drops 58 (drops 61 u)))))

abbrev all_pulled : Bytes → Bytes
all_pulled u = pulls 60 (pulls 62 (pulls 124 (pulls 44 (pulls 58 (pulls 61 u)))))

abbrev all_marked : Bytes → Bytes
all_marked u = replace_from zero (60 ∷ []) forward_space (replace_from zero (62 ∷ []) inverse_space u)

abbrev all_ten : Bytes → Bytes
all_ten u = ten 137 (ten 136 (ten 135 (ten 134 (ten 133 (ten 132 (ten 131 (ten 130 (ten 129 (ten 128 u)))))))))

run_is : (u : Bytes) → run replacements u ≡ drops 36 (all_ten (all_marked (all_pulled (all_dropped u))))
unfolding run replacements becomes subscript_becomes ascii replace
run_is u = refl

run-tidy : (t : Bytes) → all_marked (all_pulled (all_dropped (squeezed t))) ≡ tidy shut₆ bars₆ marked 32 false t
unfolding squeezed
run-tidy t =
    ap (λ (u : Bytes). all_marked (all_pulled (all_dropped u))) (squeezed-tidy t)
    ∙ ap (λ (u : Bytes). all_marked (all_pulled u)) (six-dropped t)
    ∙ ap all_marked (six-pulled t)
    ∙ two-marked t

squeezed-is : (u : Bytes) → squeezed u ≡ squeeze start u
unfolding squeezed squeeze
squeezed-is u = refl

run-held : (t : Bytes) → squeezed (run replacements (squeezed t)) ≡ hold digits₉ none (spoken 32 false t)
run-held t =
    squeezed-is (run replacements (squeezed t))
    ∙ ap (squeeze start) (run_is (squeezed t) ∙ ap (λ (u : Bytes). drops 36 (all_ten u)) (run-tidy t) ∙ ap (drops 36) (ten-held (tidy shut₆ bars₆ marked 32 false t)))
    ∙ ap (squeeze start) (replace-first 36 32 (hold digits₉ none (tidy shut₆ bars₆ marked 32 false t)))
    ∙ ap (squeeze start) (hold-dollars digits₉ all₉ (tidy shut₆ bars₆ marked 32 false t))
    ∙ hold-squeeze digits₉ all₉ (dropped (byte 36) 32 false (tidy shut₆ bars₆ marked 32 false t))
    ∙ ap (λ (u : Bytes). hold digits₉ none (squeeze start u)) (dollar-dropped t)
    ∙ ap (hold digits₉ none) (last-squeezed t)

-- the lines: a colon right behind a newline is passed over
continued-is : (t : Bytes) → continued t ≡ dropped (byte 10) 58 false t
unfolding continued replace ascii
continued-is t = replace-first 10 58 t

-- The normal form of a text, in three scans after the trims.
pub normal-scans : (t : Bytes) → normal t ≡ hold digits₉ none (spoken 32 false (dropped (byte 10) 58 false (trimmed (is ":") (trimmed white t))))
unfolding normal
normal-scans t =
    run-held (continued (trimmed (is ":") (trimmed white t)))
    ∙ ap (λ (u : Bytes). hold digits₉ none (spoken 32 false u)) (continued-is (trimmed (is ":") (trimmed white t)))
