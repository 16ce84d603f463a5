-- Writing or counting, a text after another: the laws of `Adds`.
use mathlib.Core.Path.{◌≡◌, refl, sym, ap, ◌∙◌, subst}
use mathlib.Core.Bool.{Bool, true, false, cond}
use mathlib.Core.List.{[], ◌++◌, append_assoc}
use Prim.Native.Nat.{ℕ, ◌+◌, ◌≤◌}
use native.Mathlib.Omega.{arith}
use lib.ListN.{length, take, drop, length-append, take-append-drop}
use lib.Seq.{length-take-le}
use Rattle.rules.specs.Text.Bytes.{Bytes}
use Rattle.text.specs.Wrote.{Wrote, WroteAt}
use Rattle.text.proofs.WroteAt.{wrote-both, wrote-length}
use Rattle.proj_steps.specs.Adds.{limit, Room, Adds}

-- ---- where it writes, it is as `WroteAt`

pub adds-wrote : {t dst₀ : Bytes} {at r : ℕ} {dst : Bytes} → at + length t ≤ length dst₀ → Adds true t dst₀ at r dst → WroteAt t dst₀ at r dst
adds-wrote {t} {dst₀} {at} {r} {dst} h a =
    let l : length (take at dst₀) ≡ at = length-take-le at dst₀ (omega arith) in
    record {
      wrote = record {
        count = omega (arith, a.count, length-append (take at dst₀) t);
        whole = a.whole ∙ sym (append_assoc (take at dst₀) t (drop r dst₀));
      };
    }

pub wrote-adds : {t dst₀ : Bytes} {at r : ℕ} {dst : Bytes} → at + length t ≤ length dst₀ → WroteAt t dst₀ at r dst → Adds true t dst₀ at r dst
wrote-adds {t} {dst₀} {at} {r} {dst} h w =
    record { count = (wrote-length h w).0; whole = w.wrote.whole ∙ append_assoc (take at dst₀) t (drop r dst₀) }

-- ---- for both

module _ (dst : Bytes) (at : ℕ) where
  pub adds-nothing : (write : Bool) → Adds write [] dst at at dst
  adds-nothing true = record { count = omega arith; whole = sym (take-append-drop at dst) }
  adds-nothing false = record { count = omega arith; whole = refl }

module _ {write : Bool} {t dst₀ : Bytes} {at : ℕ} (h : Room write t at dst₀) where
  pub adds-length : {r : ℕ} {dst : Bytes} → Adds write t dst₀ at r dst → length dst ≡ length dst₀
  adds-length {r} {dst} a = go write h.fits a
    where
      go : (w : Bool) → at + length t ≤ limit w dst₀ → Adds w t dst₀ at r dst → length dst ≡ length dst₀
      go true k b = unfold limit in (wrote-length k (adds-wrote k b)).1
      go false k b = ap length b.whole

  pub adds-limit : {r : ℕ} {dst : Bytes} → Adds write t dst₀ at r dst → limit write dst ≡ limit write dst₀
  unfolding limit
  adds-limit a = ap (λ (n : ℕ). cond write n 1099511627776) (adds-length a)

module _ {write : Bool} (t u : Bytes) {dst₀ : Bytes} {at : ℕ} (h : Room write (t ++ u) at dst₀) where
  pub first-room : Room write t at dst₀
  first-room = record { fits = omega (arith, h.fits, length-append t u) }

  pub then-room : {r : ℕ} {dst : Bytes} → Adds write t dst₀ at r dst → Room write u r dst
  then-room a = record { fits = omega (arith, h.fits, length-append t u, a.count, adds-limit first-room a) }

  pub adds-both : {r r' : ℕ} {dst dst' : Bytes} → Adds write t dst₀ at r dst → Adds write u dst r r' dst' → Adds write (t ++ u) dst₀ at r' dst'
  adds-both {r} {r'} {dst} {dst'} a b = go write h.fits first-room.fits (then-room a).fits a b
    where
      go : (w : Bool) → at + length (t ++ u) ≤ limit w dst₀ → at + length t ≤ limit w dst₀ → r + length u ≤ limit w dst
          → Adds w t dst₀ at r dst → Adds w u dst r r' dst' → Adds w (t ++ u) dst₀ at r' dst'
      go true k l m x y = unfold limit in wrote-adds k (wrote-both t u k (adds-wrote l x) (adds-wrote m y))
      go false k l m x y = record { count = omega (arith, x.count, y.count, length-append t u); whole = y.whole ∙ x.whole }

-- the same text in other words
pub room_as : {write : Bool} {t u dst : Bytes} {at : ℕ} → t ≡ u → Room write t at dst → Room write u at dst
room_as {write} {t} {u} {dst} {at} e h = subst (λ (x : Bytes). Room write x at dst) e h

pub adds-as : {write : Bool} {t u dst₀ dst : Bytes} {at r : ℕ} → t ≡ u → Adds write t dst₀ at r dst → Adds write u dst₀ at r dst
adds-as {write} {t} {u} {dst₀} {dst} {at} {r} e a = subst (λ (x : Bytes). Adds write x dst₀ at r dst) e a

-- a pass of the same kind
pub adds-by : {w v : Bool} {t dst₀ dst : Bytes} {at r : ℕ} → w ≡ v → Adds w t dst₀ at r dst → Adds v t dst₀ at r dst
adds-by {w} {v} {t} {dst₀} {dst} {at} {r} e a = subst (λ (b : Bool). Adds b t dst₀ at r dst) e a

-- ---- for the functions, need by need

module _ {x dst₀ : Bytes} {at : ℕ} {write : Bool} (h : Room write x at dst₀) where
  pub add-room : write ≡ true → at + length x ≤ length dst₀
  unfolding limit
  add-room e = subst (λ (b : Bool). at + length x ≤ cond b (length dst₀) 1099511627776) e h.fits

  pub add-fits : write ≡ false → at + length x ≤ 1099511627776
  unfolding limit
  add-fits e = subst (λ (b : Bool). at + length x ≤ cond b (length dst₀) 1099511627776) e h.fits

  pub add-written : {r : ℕ} {dst : Bytes} → write ≡ true → Wrote (take at dst₀ ++ x) dst₀ r dst → Adds write x dst₀ at r dst
  add-written {r} {dst} e w = subst (λ (b : Bool). Adds b x dst₀ at r dst) (sym e) (wrote-adds (add-room e) (record { wrote = w }))

  pub add-counted : write ≡ false → Adds write x dst₀ at (at + length x) dst₀
  add-counted e = record { count = refl; whole = sym (rw e) }
