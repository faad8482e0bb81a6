-- Texts and lent memory, and what the independent second program says of them, held to the definitions by computation. Written by reference/regenerate.
-- Assumes nothing.
use Rattle.std.specs.Prelude.{◌≡◌, refl, List, [], ◌∷◌}
use Rattle.lexer.specs.Spell.{bytes}
use Rattle.policy.specs.Outcome.{of_text, refusal_at, accepted, rejected, outcome, after}
use Rattle.policy.specs.Computing.{computing}

-- so much is lent
lent-0 : outcome (of_text (bytes "")) 0 ≡ rejected (refusal_at 10 84 0)
unfolding computing
lent-0 = refl

-- so much is lent
lent-1 : outcome (of_text (bytes "")) 83 ≡ rejected (refusal_at 10 84 0)
unfolding computing
lent-1 = refl

-- so much is lent
lent-2 : outcome (of_text (bytes "")) 84 ≡ accepted 84
unfolding computing
lent-2 = refl

-- so much is lent
lent-3 : outcome (of_text (bytes "")) 85 ≡ accepted 84
unfolding computing
lent-3 = refl

-- so much is lent
lent-4 : outcome (of_text (bytes "(user a)")) 0 ≡ rejected (refusal_at 10 105 0)
unfolding computing
lent-4 = refl

-- so much is lent
lent-5 : outcome (of_text (bytes "(user a)")) 104 ≡ rejected (refusal_at 10 105 0)
unfolding computing
lent-5 = refl

-- so much is lent
lent-6 : outcome (of_text (bytes "(user a)")) 105 ≡ accepted 105
unfolding computing
lent-6 = refl

-- so much is lent
lent-7 : outcome (of_text (bytes "(user a)")) 106 ≡ accepted 105
unfolding computing
lent-7 = refl

-- so much is lent
lent-8 : outcome (of_text (bytes "(class c(p))(constrain(c(p))(eq u1 u2))")) 0 ≡ rejected (refusal_at 10 110 0)
unfolding computing
lent-8 = refl

-- so much is lent
lent-9 : outcome (of_text (bytes "(class c(p))(constrain(c(p))(eq u1 u2))")) 109 ≡ rejected (refusal_at 10 110 0)
unfolding computing
lent-9 = refl

-- so much is lent
lent-10 : outcome (of_text (bytes "(class c(p))(constrain(c(p))(eq u1 u2))")) 110 ≡ accepted 110
unfolding computing
lent-10 = refl

-- so much is lent
lent-11 : outcome (of_text (bytes "(class c(p))(constrain(c(p))(eq u1 u2))")) 111 ≡ accepted 110
unfolding computing
lent-11 = refl

-- so much is lent
lent-12 : outcome (of_text (bytes "\n(user a)\n")) 0 ≡ rejected (refusal_at 10 105 0)
unfolding computing
lent-12 = refl

-- so much is lent
lent-13 : outcome (of_text (bytes "\n(user a)\n")) 104 ≡ rejected (refusal_at 10 105 0)
unfolding computing
lent-13 = refl

-- so much is lent
lent-14 : outcome (of_text (bytes "\n(user a)\n")) 105 ≡ accepted 105
unfolding computing
lent-14 = refl

-- so much is lent
lent-15 : outcome (of_text (bytes "\n(user a)\n")) 106 ≡ accepted 105
unfolding computing
lent-15 = refl

-- so much is lent
lent-16 : outcome (of_text (bytes "(class c(p))(validatetrans c(eq u1 u2))")) 0 ≡ rejected (refusal_at 10 104 0)
unfolding computing
lent-16 = refl

-- so much is lent
lent-17 : outcome (of_text (bytes "(class c(p))(validatetrans c(eq u1 u2))")) 103 ≡ rejected (refusal_at 10 104 0)
unfolding computing
lent-17 = refl

-- so much is lent
lent-18 : outcome (of_text (bytes "(class c(p))(validatetrans c(eq u1 u2))")) 104 ≡ accepted 104
unfolding computing
lent-18 = refl

-- so much is lent
lent-19 : outcome (of_text (bytes "(class c(p))(validatetrans c(eq u1 u2))")) 105 ≡ accepted 104
unfolding computing
lent-19 = refl

-- bytes past the table are unchanged
lent-20 : after (of_text (bytes "(user a)")) (3 ∷ 10 ∷ 17 ∷ 24 ∷ 31 ∷ 38 ∷ 45 ∷ 52 ∷ 59 ∷ 66 ∷ 73 ∷ 80 ∷ 87 ∷ 94 ∷ 101 ∷ 108 ∷ 115 ∷ 122 ∷ 129 ∷
    136 ∷ 143 ∷ 150 ∷ 157 ∷ 164 ∷ 171 ∷ 178 ∷ 185 ∷ 192 ∷ 199 ∷ 206 ∷ 213 ∷ 220 ∷ 227 ∷ 234 ∷ 241 ∷ 248 ∷ 255 ∷ 6 ∷ 13 ∷ 20 ∷ 27 ∷ 34 ∷ 41 ∷ 48 ∷ 55 ∷
    62 ∷ 69 ∷ 76 ∷ 83 ∷ 90 ∷ 97 ∷ 104 ∷ 111 ∷ 118 ∷ 125 ∷ 132 ∷ 139 ∷ 146 ∷ 153 ∷ 160 ∷ 167 ∷ 174 ∷ 181 ∷ 188 ∷ 195 ∷ 202 ∷ 209 ∷ 216 ∷ 223 ∷ 230 ∷
    237 ∷ 244 ∷ 251 ∷ 2 ∷ 9 ∷ 16 ∷ 23 ∷ 30 ∷ 37 ∷ 44 ∷ 51 ∷ 58 ∷ 65 ∷ 72 ∷ 79 ∷ 86 ∷ 93 ∷ 100 ∷ 107 ∷ 114 ∷ 121 ∷ 128 ∷ 135 ∷ 142 ∷ 149 ∷ 156 ∷ 163 ∷
    170 ∷ 177 ∷ 184 ∷ 191 ∷ 198 ∷ 205 ∷ 212 ∷ 219 ∷ 226 ∷ 233 ∷ 240 ∷ 247 ∷ 254 ∷ 5 ∷ 12 ∷ 19 ∷ 26 ∷ 33 ∷ 40 ∷ []) ≡ 2 ∷ 0 ∷ 10 ∷ 0 ∷ 84 ∷ 0 ∷ 0 ∷ 0 ∷
    5 ∷ 0 ∷ 0 ∷ 0 ∷ 89 ∷ 0 ∷ 0 ∷ 0 ∷ 16 ∷ 0 ∷ 0 ∷ 0 ∷ 105 ∷ 0 ∷ 0 ∷ 0 ∷ 0 ∷ 0 ∷ 0 ∷ 0 ∷ 105 ∷ 0 ∷ 0 ∷ 0 ∷ 0 ∷ 0 ∷ 0 ∷ 0 ∷ 105 ∷ 0 ∷ 0 ∷ 0 ∷ 0 ∷ 0 ∷ 0
    ∷ 0 ∷ 105 ∷ 0 ∷ 0 ∷ 0 ∷ 0 ∷ 0 ∷ 0 ∷ 0 ∷ 105 ∷ 0 ∷ 0 ∷ 0 ∷ 0 ∷ 0 ∷ 0 ∷ 0 ∷ 105 ∷ 0 ∷ 0 ∷ 0 ∷ 0 ∷ 0 ∷ 0 ∷ 0 ∷ 105 ∷ 0 ∷ 0 ∷ 0 ∷ 0 ∷ 0 ∷ 0 ∷ 0 ∷ 105
    ∷ 0 ∷ 0 ∷ 0 ∷ 0 ∷ 0 ∷ 0 ∷ 0 ∷ 0 ∷ 0 ∷ 0 ∷ 1 ∷ 97 ∷ 0 ∷ 0 ∷ 0 ∷ 0 ∷ 0 ∷ 0 ∷ 0 ∷ 0 ∷ 0 ∷ 0 ∷ 0 ∷ 0 ∷ 0 ∷ 0 ∷ 0 ∷ 0 ∷ 226 ∷ 233 ∷ 240 ∷ 247 ∷ 254 ∷ 5
    ∷ 12 ∷ 19 ∷ 26 ∷ 33 ∷ 40 ∷ []
unfolding computing
lent-20 = refl

-- on refusal 10 the memory is unchanged
lent-21 : after (of_text (bytes "(user a)")) (3 ∷ 10 ∷ 17 ∷ 24 ∷ 31 ∷ 38 ∷ 45 ∷ 52 ∷ 59 ∷ 66 ∷ 73 ∷ 80 ∷ 87 ∷ 94 ∷ 101 ∷ 108 ∷ 115 ∷ 122 ∷ 129 ∷
    136 ∷ 143 ∷ 150 ∷ 157 ∷ 164 ∷ 171 ∷ 178 ∷ 185 ∷ 192 ∷ 199 ∷ 206 ∷ 213 ∷ 220 ∷ 227 ∷ 234 ∷ 241 ∷ 248 ∷ 255 ∷ 6 ∷ 13 ∷ 20 ∷ 27 ∷ 34 ∷ 41 ∷ 48 ∷ 55 ∷
    62 ∷ 69 ∷ 76 ∷ 83 ∷ 90 ∷ 97 ∷ 104 ∷ 111 ∷ 118 ∷ 125 ∷ 132 ∷ 139 ∷ 146 ∷ 153 ∷ 160 ∷ 167 ∷ 174 ∷ 181 ∷ 188 ∷ 195 ∷ 202 ∷ 209 ∷ 216 ∷ 223 ∷ 230 ∷
    237 ∷ 244 ∷ 251 ∷ 2 ∷ 9 ∷ 16 ∷ 23 ∷ 30 ∷ 37 ∷ 44 ∷ 51 ∷ 58 ∷ 65 ∷ 72 ∷ 79 ∷ 86 ∷ 93 ∷ 100 ∷ 107 ∷ 114 ∷ 121 ∷ 128 ∷ 135 ∷ 142 ∷ 149 ∷ 156 ∷ 163 ∷
    170 ∷ 177 ∷ 184 ∷ 191 ∷ 198 ∷ 205 ∷ 212 ∷ []) ≡ 3 ∷ 10 ∷ 17 ∷ 24 ∷ 31 ∷ 38 ∷ 45 ∷ 52 ∷ 59 ∷ 66 ∷ 73 ∷ 80 ∷ 87 ∷ 94 ∷ 101 ∷ 108 ∷ 115 ∷ 122 ∷ 129 ∷
    136 ∷ 143 ∷ 150 ∷ 157 ∷ 164 ∷ 171 ∷ 178 ∷ 185 ∷ 192 ∷ 199 ∷ 206 ∷ 213 ∷ 220 ∷ 227 ∷ 234 ∷ 241 ∷ 248 ∷ 255 ∷ 6 ∷ 13 ∷ 20 ∷ 27 ∷ 34 ∷ 41 ∷ 48 ∷ 55 ∷
    62 ∷ 69 ∷ 76 ∷ 83 ∷ 90 ∷ 97 ∷ 104 ∷ 111 ∷ 118 ∷ 125 ∷ 132 ∷ 139 ∷ 146 ∷ 153 ∷ 160 ∷ 167 ∷ 174 ∷ 181 ∷ 188 ∷ 195 ∷ 202 ∷ 209 ∷ 216 ∷ 223 ∷ 230 ∷
    237 ∷ 244 ∷ 251 ∷ 2 ∷ 9 ∷ 16 ∷ 23 ∷ 30 ∷ 37 ∷ 44 ∷ 51 ∷ 58 ∷ 65 ∷ 72 ∷ 79 ∷ 86 ∷ 93 ∷ 100 ∷ 107 ∷ 114 ∷ 121 ∷ 128 ∷ 135 ∷ 142 ∷ 149 ∷ 156 ∷ 163 ∷
    170 ∷ 177 ∷ 184 ∷ 191 ∷ 198 ∷ 205 ∷ 212 ∷ []
unfolding computing
lent-21 = refl

-- on refusal 3 the memory is unchanged
lent-22 : after (of_text (bytes "(user a)()")) (3 ∷ 10 ∷ 17 ∷ 24 ∷ 31 ∷ 38 ∷ 45 ∷ 52 ∷ 59 ∷ 66 ∷ 73 ∷ 80 ∷ 87 ∷ 94 ∷ 101 ∷ 108 ∷ 115 ∷ 122 ∷ 129 ∷
    136 ∷ 143 ∷ 150 ∷ 157 ∷ 164 ∷ 171 ∷ 178 ∷ 185 ∷ 192 ∷ 199 ∷ 206 ∷ 213 ∷ 220 ∷ 227 ∷ 234 ∷ 241 ∷ 248 ∷ 255 ∷ 6 ∷ 13 ∷ 20 ∷ 27 ∷ 34 ∷ 41 ∷ 48 ∷ 55 ∷
    62 ∷ 69 ∷ 76 ∷ 83 ∷ 90 ∷ 97 ∷ 104 ∷ 111 ∷ 118 ∷ 125 ∷ 132 ∷ 139 ∷ 146 ∷ 153 ∷ 160 ∷ 167 ∷ 174 ∷ 181 ∷ 188 ∷ 195 ∷ 202 ∷ 209 ∷ 216 ∷ 223 ∷ 230 ∷
    237 ∷ 244 ∷ 251 ∷ 2 ∷ 9 ∷ 16 ∷ 23 ∷ 30 ∷ 37 ∷ 44 ∷ 51 ∷ 58 ∷ 65 ∷ 72 ∷ 79 ∷ 86 ∷ 93 ∷ 100 ∷ 107 ∷ 114 ∷ 121 ∷ 128 ∷ 135 ∷ 142 ∷ 149 ∷ 156 ∷ []) ≡
    3 ∷ 10 ∷ 17 ∷ 24 ∷ 31 ∷ 38 ∷ 45 ∷ 52 ∷ 59 ∷ 66 ∷ 73 ∷ 80 ∷ 87 ∷ 94 ∷ 101 ∷ 108 ∷ 115 ∷ 122 ∷ 129 ∷ 136 ∷ 143 ∷ 150 ∷ 157 ∷ 164 ∷ 171 ∷ 178 ∷ 185 ∷
    192 ∷ 199 ∷ 206 ∷ 213 ∷ 220 ∷ 227 ∷ 234 ∷ 241 ∷ 248 ∷ 255 ∷ 6 ∷ 13 ∷ 20 ∷ 27 ∷ 34 ∷ 41 ∷ 48 ∷ 55 ∷ 62 ∷ 69 ∷ 76 ∷ 83 ∷ 90 ∷ 97 ∷ 104 ∷ 111 ∷ 118 ∷
    125 ∷ 132 ∷ 139 ∷ 146 ∷ 153 ∷ 160 ∷ 167 ∷ 174 ∷ 181 ∷ 188 ∷ 195 ∷ 202 ∷ 209 ∷ 216 ∷ 223 ∷ 230 ∷ 237 ∷ 244 ∷ 251 ∷ 2 ∷ 9 ∷ 16 ∷ 23 ∷ 30 ∷ 37 ∷ 44 ∷
    51 ∷ 58 ∷ 65 ∷ 72 ∷ 79 ∷ 86 ∷ 93 ∷ 100 ∷ 107 ∷ 114 ∷ 121 ∷ 128 ∷ 135 ∷ 142 ∷ 149 ∷ 156 ∷ []
unfolding computing
lent-22 = refl

-- on refusal 2 the memory is unchanged
lent-23 : after (of_text (bytes "!")) (3 ∷ 10 ∷ 17 ∷ 24 ∷ 31 ∷ 38 ∷ 45 ∷ 52 ∷ 59 ∷ 66 ∷ 73 ∷ 80 ∷ 87 ∷ 94 ∷ 101 ∷ 108 ∷ 115 ∷ 122 ∷ 129 ∷ 136 ∷
    143 ∷ 150 ∷ 157 ∷ 164 ∷ 171 ∷ 178 ∷ 185 ∷ 192 ∷ 199 ∷ 206 ∷ 213 ∷ 220 ∷ 227 ∷ 234 ∷ 241 ∷ 248 ∷ 255 ∷ 6 ∷ 13 ∷ 20 ∷ 27 ∷ 34 ∷ 41 ∷ 48 ∷ 55 ∷ 62 ∷
    69 ∷ 76 ∷ 83 ∷ 90 ∷ 97 ∷ 104 ∷ 111 ∷ 118 ∷ 125 ∷ 132 ∷ 139 ∷ 146 ∷ 153 ∷ 160 ∷ 167 ∷ 174 ∷ 181 ∷ 188 ∷ 195 ∷ 202 ∷ 209 ∷ 216 ∷ 223 ∷ 230 ∷ []) ≡ 3
    ∷ 10 ∷ 17 ∷ 24 ∷ 31 ∷ 38 ∷ 45 ∷ 52 ∷ 59 ∷ 66 ∷ 73 ∷ 80 ∷ 87 ∷ 94 ∷ 101 ∷ 108 ∷ 115 ∷ 122 ∷ 129 ∷ 136 ∷ 143 ∷ 150 ∷ 157 ∷ 164 ∷ 171 ∷ 178 ∷ 185 ∷
    192 ∷ 199 ∷ 206 ∷ 213 ∷ 220 ∷ 227 ∷ 234 ∷ 241 ∷ 248 ∷ 255 ∷ 6 ∷ 13 ∷ 20 ∷ 27 ∷ 34 ∷ 41 ∷ 48 ∷ 55 ∷ 62 ∷ 69 ∷ 76 ∷ 83 ∷ 90 ∷ 97 ∷ 104 ∷ 111 ∷ 118 ∷
    125 ∷ 132 ∷ 139 ∷ 146 ∷ 153 ∷ 160 ∷ 167 ∷ 174 ∷ 181 ∷ 188 ∷ 195 ∷ 202 ∷ 209 ∷ 216 ∷ 223 ∷ 230 ∷ []
unfolding computing
lent-23 = refl
