-- Fields of a line and the numbers in them, as they are read from the left.
use Rattle.std.specs.Prelude.{ℕ, ◌+◌, ◌-◌, ◌*◌, ◌^◌, ◌%◌, cond, ◌&&◌, List, [], ◌∷◌, length, drop, ℤ, pos, neg_ℤ, Some, None, Option, ◌==◌, nat_le, nat_lt, slice_index}
use Rattle.std.specs.Char.{is_ascii_digit}

-- one more byte in front of the first part
abbrev pub fronted : ℕ → Option (List ℕ × List ℕ) → Option (List ℕ × List ℕ)
fronted x None = None
fronted x (Some p) = Some (x ∷ p.0, p.1)

-- the bytes before the first separator and those after it
unfoldable pub cut_at : ℕ → List ℕ → Option (List ℕ × List ℕ)
cut_at separator [] = None
cut_at separator (x ∷ xs) = let later = cut_at separator xs in cond (x == separator) (Some ([], xs)) (fronted x later)

-- the one byte of a field
abbrev pub letter_of : List ℕ → Option ℕ
letter_of [] = None
letter_of (x ∷ []) = Some x
letter_of (x ∷ y ∷ ys) = None

-- the number that decimal digits (bytes 48 to 57) write after those of n, where all are digits
unfoldable pub read_after : ℕ → List ℕ → Option ℕ
read_after n [] = Some n
read_after n (c ∷ cs) = let later = read_after (n * 10 + (c - 48)) cs in cond (is_ascii_digit c) later None

-- n with one more decimal digit, where the byte is one and the number is below 2^64
abbrev pub digit_after : ℕ → ℕ → Option ℕ
digit_after n c = cond (is_ascii_digit c && nat_lt (n * 10 + (c - 48)) (2 ^ 64)) (Some (n * 10 + (c - 48))) None

-- n with one more decimal digit, modulo 2^64, where the byte is one: the same wherever the number is below 2^64
abbrev pub digit_after_modulo : ℕ → ℕ → Option ℕ
digit_after_modulo n c = cond (is_ascii_digit c) (Some ((n * 10 + (c - 48)) % 2 ^ 64)) None

-- a number up to 2^62
abbrev pub limited : Option ℕ → Option ℕ
limited None = None
limited (Some n) = cond (nat_le n (2 ^ 62)) (Some n) None

-- a numeral: 1 to 19 digits, at most 2^62
unfoldable pub numeral_of : List ℕ → Option ℕ
numeral_of ds = cond (nat_le 1 (length ds) && nat_le (length ds) 19) (limited (read_after 0 ds)) None

abbrev pub positive : Option ℕ → Option ℤ
positive None = None
positive (Some n) = Some (pos n)

abbrev pub negative : Option ℕ → Option ℤ
negative None = None
negative (Some n) = Some (neg_ℤ (pos n))

-- a whole number: a numeral, or a minus sign and a numeral
abbrev pub whole_of : List ℕ → Option ℤ
whole_of field = cond (slice_index field 0 == 45) (negative (numeral_of (drop 1 field))) (positive (numeral_of field))

-- a value and the rest, where there is a value
abbrev pub beside : {A : Type 0} → Option A → List ℕ → Option (A × List ℕ)
beside None rest = None
beside (Some x) rest = Some (x, rest)

-- what is read from the first field, and the rest
abbrev pub heading : {A : Type 0} → (List ℕ → Option A) → Option (List ℕ × List ℕ) → Option (A × List ℕ)
heading reads None = None
heading reads (Some p) = beside (reads p.0) p.1

-- a letter, a comma and the rest
unfoldable pub letter_and_rest : List ℕ → Option (ℕ × List ℕ)
letter_and_rest text = heading letter_of (cut_at 44 text)

-- a numeral, a comma and the rest
unfoldable pub number_and_rest : List ℕ → Option (ℕ × List ℕ)
number_and_rest text = heading numeral_of (cut_at 44 text)

-- a whole number, a comma and the rest
unfoldable pub whole_and_rest : List ℕ → Option (ℤ × List ℕ)
whole_and_rest text = heading whole_of (cut_at 44 text)
