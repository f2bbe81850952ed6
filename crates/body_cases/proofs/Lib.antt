mod Laws
mod Names
mod Requests
