-- What the page answers (RFC 1945 section 6).
use Rattle.std.specs.Prelude.{◌≡◌, ◌||◌, ℕ, List, [], Bool, true, false, if◌then◌else◌, length, codes}
use Rattle.std.specs.Fmt.{decimal}
use Rattle.gw_report.specs.declared.report.Health.{Health}
use Rattle.gw_report.specs.declared.report.Report.{Report}
use Rattle.gw_page.specs.declared.answer.Status.{Status}
use Rattle.gw_page.specs.declared.answer.Status.TheVariants as statuses
use Rattle.gw_page.specs.declared.front.TheConstants.{FRONT}
use Rattle.gw_page.specs.declared.request.Asked.{Asked}
use Rattle.gw_page.specs.declared.request.Asked.TheVariants as asked
use Rattle.gw_page.specs.declared.request.Method.{Method}
use Rattle.gw_page.specs.declared.request.Method.TheVariants as methods
use Rattle.gw_page.specs.declared.request.Target.{Target}
use Rattle.gw_page.specs.declared.request.Target.TheVariants as targets
use Rattle.gw_page.specs.Requests.{IsRequestFor}
use Rattle.gw_page.specs.Texts.{◌▹◌, line_end}
use Rattle.gw_page.specs.Expositions.{exposition_of}
use Rattle.gw_page.specs.Clients.{clients_text}
use Rattle.gw_page.specs.Logs.{log_text}

-- a status, as its line has it
unfoldable pub status_word : Status → List ℕ
status_word statuses.Found = codes "200 OK"
status_word statuses.BadRequest = codes "400 Bad Request"
status_word statuses.NotFound = codes "404 Not Found"
status_word statuses.NotAllowed = codes "405 Method Not Allowed"
status_word statuses.TooLarge = codes "431 Request Header Fields Too Large"
status_word statuses.Unavailable = codes "503 Service Unavailable"

-- the further fields of a status: which methods are allowed
unfoldable pub status_fields : Status → List ℕ
status_fields statuses.NotAllowed = codes "Allow: GET, HEAD\r\n"
status_fields status = []

-- whether something is wrong with the gateway
abbrev pub is_ill : Health → Bool
is_ill health = health.is_late || health.is_halted || health.has_failed

-- the line of something that is wrong
abbrev pub complaint : Bool → List ℕ → List ℕ
complaint true words = words ▹ line_end
complaint false words = []

-- whether the gateway is well, or what is wrong
abbrev pub health_text : Health → List ℕ
health_text health =
    if is_ill health then
    complaint health.is_late (codes "the clock is late")
    ▹ complaint health.is_halted (codes "the gateway is halted")
    ▹ complaint health.has_failed (codes "a write failed")
    else codes "ok" ▹ line_end

-- the status of a page
abbrev pub shown_status : Target → Health → Status
shown_status targets.Health health =
    if is_ill health then statuses.Unavailable else statuses.Found
shown_status target health = statuses.Found

-- the status of what is asked for
abbrev pub page_status : Asked → Health → Status
page_status (asked.Shown method target) health = shown_status target health
page_status (asked.Elsewhere method) health = statuses.NotFound
page_status asked.OtherMethod health = statuses.NotAllowed
page_status asked.TooLarge health = statuses.TooLarge
page_status asked.Malformed health = statuses.BadRequest

-- what a page is written in
abbrev pub shown_type : Target → List ℕ
shown_type targets.Front = codes "text/html; charset=utf-8"
shown_type targets.Metrics = codes "text/plain; version=0.0.4; charset=utf-8"
shown_type target = codes "text/plain; charset=utf-8"

-- what the answer is written in
abbrev pub page_type : Asked → List ℕ
page_type (asked.Shown method target) = shown_type target
page_type request = codes "text/plain; charset=utf-8"

-- a page
abbrev pub shown_text : Target → Report → List ℕ
shown_text targets.Front report = FRONT.now
shown_text targets.Metrics report = exposition_of report.numbers
shown_text targets.Clients report = clients_text report.clients
shown_text targets.Log report = log_text report.events
shown_text targets.Health report = health_text report.health

-- a refusal, by its status
abbrev pub refusal_page : Status → List ℕ
refusal_page status = status_word status ▹ line_end

-- the body of the answer to what is asked for
abbrev pub page_body : Asked → Report → List ℕ
page_body (asked.Shown method target) report = shown_text target report
page_body (asked.Elsewhere method) report = refusal_page statuses.NotFound
page_body asked.OtherMethod report = refusal_page statuses.NotAllowed
page_body asked.TooLarge report = refusal_page statuses.TooLarge
page_body asked.Malformed report = refusal_page statuses.BadRequest

-- the first line of an answer
unfoldable pub first_line : Status → List ℕ
first_line status = codes "HTTP/1.0 " ▹ status_word status ▹ codes "\r\n"

-- what a body is written in
unfoldable pub type_field : List ℕ → List ℕ
type_field type = codes "Content-Type: " ▹ type ▹ codes "\r\n"

-- how long a body is
unfoldable pub length_field : ℕ → List ℕ
length_field size = codes "Content-Length: " ▹ decimal size ▹ codes "\r\n"

-- the other fields, and the end of a head
unfoldable pub last_fields : List ℕ → List ℕ
last_fields fields =
    codes "Connection: close\r\nCache-Control: no-store\r\n" ▹ fields ▹ codes "\r\n"

-- the head of an answer, with the length of its body
unfoldable pub head_of : Status → List ℕ → ℕ → List ℕ
head_of status type size =
    first_line status ▹ type_field type ▹ length_field size ▹ last_fields (status_fields status)

-- the body, unless it is asked for without
abbrev pub sent_by : Method → List ℕ → List ℕ
sent_by methods.Get body = body
sent_by methods.Head body = []

-- what goes out of the body
abbrev pub sent_of : Asked → List ℕ → List ℕ
sent_of (asked.Shown method target) body = sent_by method body
sent_of (asked.Elsewhere method) body = sent_by method body
sent_of request body = body

-- the answer to what is asked for: a head with the body's length, and the body
abbrev pub reply_text : Asked → Report → List ℕ
reply_text what report =
    head_of (page_status what report.health) (page_type what) (length (page_body what report))
    ▹ sent_of what (page_body what report)

-- the answer to a request: that to what it asks for
abbrev pub IsReply : List ℕ → Report → List ℕ → Type 0
IsReply request report answer =
    (what : Asked) × IsRequestFor request what × (answer ≡ reply_text what report)
