-- Paper 02, request 02: ASCII, of which every byte is a character by itself.
use Rattle.std.specs.Prelude.{◌≡◌, Bool, true, List, [], ◌∷◌, ◌++◌, ℕ, zero, suc, ◌+◌, T, leb, length}
use Rattle.std.proofs.Common.{sym, ◌∙◌, arith, le→leb}
use Rattle.std.proofs.Math.Dec.{leb-zero, leb-suc-zero, leb-suc-suc}
use Rattle.base.specs.Lists.{all}
use Rattle.base.specs.Tests.{and_l, and_r, T_true}
use Rattle.meaning.specs.Characters.{is_in, characters, starts, follows, at_most}
use Rattle.meaning.specs.Forms.{is_digit}
use Rattle.laws.specs.Digits.{digit_high}

-- a byte of ASCII
unfoldable pub is_ascii : ℕ → Bool
is_ascii x = leb x 127

-- nothing but ASCII
abbrev pub ascii : List ℕ → Bool
ascii b = all is_ascii b

-- a digit is
pub digit_ascii : (x : ℕ) → T (is_digit x) → T (is_ascii x)
unfolding is_ascii
digit_ascii x t = le→leb x 127 (omega (arith, digit_high x t))

-- it begins a character
pub ascii_starts : (x : ℕ) → T (is_ascii x) → starts characters x ≡ true
unfolding is_ascii characters starts is_in
ascii_starts x t = rw (leb-zero x, T_true (leb x 127) t)

-- and nothing follows it there
pub ascii_follows : (x : ℕ) → T (is_ascii x) → follows characters x ≡ []
unfolding is_ascii characters follows is_in
ascii_follows x t = rw (leb-zero x, T_true (leb x 127) t)

-- so characters are counted as bytes are
pub ascii_most : (w : ℕ) (t : List ℕ) → T (ascii t) → at_most w [] t ≡ leb (length t) w
unfolding at_most
ascii_most w [] t = sym (leb-zero w)
ascii_most zero (x ∷ u) t = sym (leb-suc-zero (length u))
ascii_most (suc w) (x ∷ u) t =
    let a = and_l (is_ascii x) (ascii u) t in
    rw (ascii_starts x a, ascii_follows x a) (ascii_most w u (and_r (is_ascii x) (ascii u) t) ∙ sym (leb-suc-suc (length u) w))

-- and what follows ASCII has the width that is left
pub ascii_past : (w : ℕ) (a u : List ℕ) → T (ascii a) → T (at_most w [] (a ++ u)) → (v : ℕ) × (w ≡ length a + v) × T (at_most v [] u)
unfolding at_most
ascii_past w [] u d t = (w, omega arith, t)
ascii_past zero (x ∷ a) u d t = absurd t
ascii_past (suc w) (x ∷ a) u d t =
    let k = rw (ascii_follows x (and_l (is_ascii x) (ascii a) d)) at (and_r (starts characters x) (at_most w (follows characters x) (a ++ u)) t) in
    let h = ascii_past w a u (and_r (is_ascii x) (ascii a) d) k in
    (h.0, omega (arith, h.1), h.2)
