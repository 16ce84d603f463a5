-- Writing a text into a buffer from its front, a byte or a part at a time: the laws of `Wrote`, and the part that the
-- invariants of all writers share, `Sofar`.
use mathlib.Core.Path.{◌≡◌, refl, sym, ap, ◌∙◌}
use mathlib.Core.List.{[], ◌∷◌, ◌++◌, append_assoc, append-nil}
use Prim.Native.Nat.{ℕ, suc, ◌+◌, ◌-◌, ◌≤◌, ◌<◌}
use native.Mathlib.Numerals.{add-one}
use native.Mathlib.Omega.{arith}
use lib.ListN.{length, take, drop, get_or, set, length-append, length-drop, take-append-drop}
use lib.Seq.{drop-cons, take_all, take_at, set_at, length-take-le, drop-drop, drop-append-add, append_snoc}
use Rattle.rules.specs.Text.Bytes.{Bytes}
use Rattle.text.specs.Wrote.{Wrote, Holds}

-- what a caller learns
module _ {text dst₀ : Bytes} {r : ℕ} {dst : Bytes} (w : Wrote text dst₀ r dst) where
  pub wrote-front : take r dst ≡ text
  wrote-front = rw w.whole (take_at text (drop r dst₀) r (sym w.count))

  pub wrote-fits : r ≤ length dst
  wrote-fits = rw (w.whole, length-append) (omega (arith, w.count))

  pub wrote-counts : r ≡ length (take r dst)
  wrote-counts = w.count ∙ sym (ap length wrote-front)

  -- the rest may be forgotten
  pub wrote-holds : Holds text r dst
  wrote-holds = record { count = w.count; whole = rw (← wrote-front) (sym (take-append-drop r dst)) }

-- a buffer holds its own front
pub holds-front : (buf : Bytes) (r : ℕ) → r ≤ length buf → Holds (take r buf) r buf
holds-front buf r h = record { count = sym (length-take-le r buf h); whole = sym (take-append-drop r buf) }

-- `all` is to be written into `dst₀`, which has room; `dst` has all of it but `rest`, and `o` is the place to go on
pub record Sofar (all_of rest dst₀ : Bytes) (o : ℕ) (dst : Bytes) : Type 0 where
  pub done : Bytes
  pub wrote : Wrote done dst₀ o dst
  pub right : done ++ rest ≡ all_of
  pub room : length all_of ≤ length dst₀

module _ {all_of rest dst₀ : Bytes} {o : ℕ} {dst : Bytes} (s : Sofar all_of rest dst₀ o dst) where
  -- what is written and what is left are the whole
  pub sofar-count : o + length rest ≡ length all_of
  sofar-count = rw (← s.right, length-append, s.wrote.count)

  pub sofar-length : length dst ≡ length dst₀
  sofar-length = rw s.wrote.whole (simp (length-append, length-drop) (omega (arith, s.wrote.count, sofar-count, s.room)))

  -- what is left has room
  pub sofar-room : o + length rest ≤ length dst₀
  sofar-room = omega (arith, sofar-count, s.room)

-- a text's rest from j on is the byte at j and the rest after it
pub drop-next : (l : Bytes) (j : ℕ) → j < length l → drop j l ≡ get_or l j 0 ∷ drop (j + 1) l
drop-next l j h = rw (add-one, drop-cons l j 0 h)

-- what the code makes of a text from a place on
pub part-from : (s : Bytes) (k : ℕ) → take (length s - k) (drop k s) ≡ drop k s
part-from s k = take_all (length s - k) (drop k s) (omega (arith, length-drop k s))

-- nothing is written yet
pub sofar-start : (all_of d : Bytes) → length all_of ≤ length d → Sofar all_of all_of d 0 d
sofar-start all_of d h = record { done = []; wrote = record { count = refl; whole = refl }; right = refl; room = h }

-- a list's first bytes stay, and t is to be written after them
pub sofar-at : (t d : Bytes) (at : ℕ) → at + length t ≤ length d → Sofar (take at d ++ t) t d at d
sofar-at t d at h =
    let l : length (take at d) ≡ at = length-take-le at d (omega arith) in
    record {
      done = take at d;
      wrote = record { count = sym l; whole = sym (take-append-drop at d) };
      right = refl;
      room = simp length-append (omega arith);
    }

-- all is written
pub sofar-end : {all_of dst₀ : Bytes} {o : ℕ} {dst : Bytes} → Sofar all_of [] dst₀ o dst → Wrote all_of dst₀ o dst
sofar-end s = let e = sym (append-nil s.done) ∙ s.right in rw (← e) s.wrote

-- a byte is written
pub sofar-byte : {all_of rest dst₀ : Bytes} {o v : ℕ} {dst : Bytes} → Sofar all_of (v ∷ rest) dst₀ o dst → Sofar all_of rest dst₀ (o + 1) (set dst o v)
sofar-byte {all_of} {rest} {dst₀} {o} {v} {dst} s =
    let n : o + suc (length rest) ≡ length all_of = sofar-count s in
    let m = s.room in
    let h : o < length dst₀ = omega arith in
    let p = s.wrote.count in
    record {
      done = s.done ++ (v ∷ []);
      wrote = record {
        count = simp length-append (omega arith);
        whole = rw (s.wrote.whole, drop-cons dst₀ o 0 h, set_at s.done (get_or dst₀ o 0) (drop (suc o) dst₀) v o (sym p), add-one) (sym (append_snoc s.done v (drop (suc o) dst₀)));
      };
      right = append_snoc s.done v rest ∙ s.right;
      room = m;
    }

-- there is room for what comes next
pub sofar-byte-room : {all_of rest dst₀ : Bytes} {o v : ℕ} {dst : Bytes} → Sofar all_of (v ∷ rest) dst₀ o dst → (o < length dst) × (o < length dst₀)
sofar-byte-room s = (omega (arith, sofar-room s, sofar-length s), omega (arith, sofar-room s))

pub sofar-part-room : (part rest : Bytes) {all_of dst₀ : Bytes} {o : ℕ} {dst : Bytes} → Sofar all_of (part ++ rest) dst₀ o dst → o + length part ≤ length dst
sofar-part-room part rest s = omega (arith, simp length-append at (sofar-room s), sofar-length s)

-- a part is written, by one that was lent `dst` and kept what it had
pub sofar-part : (part : Bytes) {all_of rest dst₀ : Bytes} {o r : ℕ} {dst last : Bytes} → Sofar all_of (part ++ rest) dst₀ o dst
    → Wrote (take o dst ++ part) dst r last → Sofar all_of rest dst₀ r last
sofar-part part {all_of} {rest} {dst₀} {o} {r} {dst} {last} s w =
    let p = s.wrote.count in
    let t : take o dst ≡ s.done = rw s.wrote.whole (take_at s.done (drop o dst₀) o (sym p)) in
    let n : r ≡ o + length part = w.count ∙ rw t (simp length-append (omega arith)) in
    let d : drop r dst ≡ drop r dst₀ =
    rw (n, s.wrote.whole) (rw (p, drop-append-add, drop-drop)) in
    record {
      done = s.done ++ part;
      wrote = record { count = rw n (simp length-append (omega arith)); whole = w.whole ∙ rw (t, d) };
      right = append_assoc s.done part rest ∙ s.right;
      room = s.room;
    }
