-- The numbers of the refusals of documents 01 and 02, each named for what it is given for. Where several apply, the lowest
-- is given; reading a sheet alone tests in an order of its own: long, many, line, room.
use Rattle.std.specs.Prelude.{ℕ}
use Rattle.answers.specs.declared.Refusal.{Refusal}
use Rattle.answers.specs.declared.Refusal.TheVariants.{Width, Fit, Order, Room, Odd, Many, Rule, Space, Stated, Ill, Header, Line, Long}

-- the width is not 1 .. 16
abbrev pub width : ℕ
width = 1

-- an interval end or open bound does not fit
abbrev pub fit : ℕ
fit = 2

-- low > high, or B - A < 2
abbrev pub order : ℕ
order = 3

-- a list to be written has fewer than 2k numbers of room; k comes with it. The rules of a sheet have fewer bytes of room
-- than they need; the bytes needed come with it
abbrev pub room : ℕ
room = 4

-- the rule list's length is no multiple of a rule's
abbrev pub odd : ℕ
odd = 5

-- there are too many rules
abbrev pub many : ℕ
many = 6

-- a rule is bad; the lowest such rule and its first bad field come with it
abbrev pub rule : ℕ
rule = 7

-- the words needed exceed the table's room; their number comes with it
abbrev pub space : ℕ
space = 8

-- the stated word count exceeds the room
abbrev pub stated : ℕ
stated = 9

-- a counted word is ill formed; the lowest such index comes with it
abbrev pub ill : ℕ
ill = 10

-- the header has not 13 bytes
abbrev pub header : ℕ
header = 11

-- a line of a sheet is bad; the first such line, from 1, and its first bad field come with it
abbrev pub line : ℕ
line = 20

-- a sheet is too long
abbrev pub long : ℕ
long = 21

-- the number of each
abbrev pub number_of : Refusal → ℕ
number_of Width = width
number_of Fit = fit
number_of Order = order
number_of Room = room
number_of Odd = odd
number_of Many = many
number_of Rule = rule
number_of Space = space
number_of Stated = stated
number_of Ill = ill
number_of Header = header
number_of Line = line
number_of Long = long
